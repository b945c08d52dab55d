use Rattle.std.proofs.Common.{rules, tests, sym, ◌∙◌}
use Rattle.std.proofs.lemmas.Iterator.{YieldsList-from_slice}
use Rattle.std.proofs.lemmas.Iterator.Consumers.{fold_from_yields_List}
use lib.Ieee.{nan}
use Rattle.folds.proofs.Lists.{all_listed}
use Rattle.folds.proofs.Searches.{all_folded}
use Rattle.bounds.specs.Magnitude.{within_two, all_within_two}
use Rattle.bounds.proofs.all_within_two.Goals as goal

pub returns : goal.returns
unfolding all_within_two
returns c =
    all_folded within_two c.args.numbers.now (fold_from_yields_List _ _ _ _ c.fold.ensures.ran (YieldsList-from_slice c.args.numbers.now cc) (λ a x b q k. search (rules, tests)))
    ∙ sym (all_listed within_two c.args.numbers.now nan)
