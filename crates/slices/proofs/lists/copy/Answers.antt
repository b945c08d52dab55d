use Rattle.std.proofs.Common.{◌≡◌, length, ◌∙◌, arith, map-id}
use lib.Ieee.{nan}
use Rattle.folds.proofs.Lists.{filled}
use Rattle.slices.proofs.lists.copy.Goals as goal

pub returns : goal.returns
returns c =
    let q = c.args in
    let e : c.loop-i.i ≡ length q.from.now = omega arith in
    rw e at c.loop-i.invariant ∙ filled (λ x. x) q.from.now nan nan q.to.now c.requires ∙ map-id q.from.now
