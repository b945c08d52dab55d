use Rattle.std.proofs.Common.{rules, tests, ◌∙◌, sym}
use lib.Ieee.Scale.{finite}
use Rattle.folds.proofs.Searches.{all_over}
use Rattle.sums.specs.Means.{ratio}
use Rattle.sums.proofs.Laws.{finite_mapped}
use Rattle.sums.proofs.means.ratios_finite.Goals as goal

pub returns : goal.returns
returns c =
    let f = ratio c.args.samples c.args.means in
    all_over (λ x. finite (f x)) c.args.sums.now c.all.ensures.ran (λ x b q k. search (rules, tests)) (cc) ∙ sym (finite_mapped f c.args.sums.now)
