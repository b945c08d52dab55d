use Rattle.std.proofs.Common.{rules, tests, ◌∙◌}
use Rattle.complex.specs.Complex.{finite_entry}
use Rattle.folds.proofs.Searches.{all_over}
use Rattle.mat.proofs.Laws.{finite_nine}
use Rattle.mat.proofs.Su3.is_finite.Goals as goal

pub returns : goal.returns
returns c = all_over finite_entry c.args.self.m c.all.ensures.ran (λ x b q k. search (rules, tests)) (cc) ∙ finite_nine c.args.self (search rules)
