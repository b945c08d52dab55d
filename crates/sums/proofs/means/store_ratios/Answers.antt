use Rattle.std.proofs.Common.{◌≡◌, length, ◌∙◌, arith}
use lib.Ieee.{nan}
use Rattle.folds.proofs.Lists.{filled}
use Rattle.sums.specs.Means.{ratio}
use Rattle.sums.proofs.means.store_ratios.Goals as goal

pub returns : goal.returns
returns c =
    let q = c.args in
    let e : c.loop-i.i ≡ length q.sums.now = omega arith in
    rw e at c.loop-i.invariant ∙ filled (ratio q.samples q.means) q.sums.now nan nan q.out.now c.requires
