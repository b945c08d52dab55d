use Rattle.std.proofs.Common.{◌≡◌, true}
use Rattle.folds.specs.Folds.{all_below}
use Rattle.rows.specs.Finite.{finite_numbers}
use Rattle.fields.proofs.places.check.Given as goal

abbrev pub invariant-loop-k : goal.invariant-loop-k
invariant-loop-k g l = all_below (λ k. finite_numbers (g.W.Filling.numbers l.what k)) l.k ≡ true
