use Rattle.std.proofs.Common.{◌≡◌}
use Rattle.folds.specs.Folds.{fill}
use Rattle.slices.specs.Slices.{number}
use Rattle.slices.proofs.lists.copy.Given as goal

abbrev pub invariant-loop-i : goal.invariant-loop-i
invariant-loop-i l = l.to ≡ fill (λ k. number l.from k) l.initial.to l.i
