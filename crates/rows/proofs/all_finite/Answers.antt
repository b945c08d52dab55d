use Rattle.std.proofs.Common.{rules, tests, sym, ◌∙◌}
use Rattle.std.specs.Float.{nan}
use Rattle.std.proofs.lemmas.Iterator.{YieldsList-from_slice}
use Rattle.std.proofs.lemmas.Iterator.Consumers.{fold_from_yields_List}
use lib.Ieee.Scale.{finite}
use Rattle.folds.proofs.Lists.{all_listed}
use Rattle.folds.proofs.Searches.{all_folded}
use Rattle.rows.specs.Finite.{finite_numbers}
use Rattle.rows.proofs.all_finite.Goals as goal

pub returns : goal.returns
unfolding finite_numbers
returns c =
    all_folded finite c.args.l.now (fold_from_yields_List _ _ _ _ c.fold.ensures.ran (YieldsList-from_slice c.args.l.now cc) (λ a x b q k. search (rules, tests)))
    ∙ sym (all_listed finite c.args.l.now nan)
