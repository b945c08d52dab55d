use Rattle.std.proofs.Common.{rules, tests, arith, [], length, ap, sym, ◌∙◌}
use Rattle.std.proofs.Math.Bool.{not-not}
use Rattle.folds.specs.Folds.{all_below}
use Rattle.mat.specs.Matrix.{finite_matrix}
use Rattle.field_checks.specs.Situations.{finite_six, bad_six}
use Rattle.folds.proofs.Lists.{all_listed}
use Rattle.folds.proofs.Searches.{all_over}
use Rattle.field_checks.proofs.finite.ArraySu36Numeric.is_finite.Goals as goal

pub returns : goal.returns
unfolding finite_six bad_six
returns c =
    all_over finite_matrix c.args.self c.all.ensures.ran (λ x b q k. search (rules, tests)) (cc)
    ∙ sym (all_listed finite_matrix c.args.self (record { m = [] })) ∙ ap (all_below _) {x = length c.args.self} (omega arith) ∙ sym (not-not _)
