use Rattle.std.proofs.Common.{◌≡◌}
use Rattle.folds.specs.Folds.{fill}
use Rattle.slices.specs.Slices.{number}
use Rattle.sums.specs.Means.{ratio}
use Rattle.sums.proofs.means.store_ratios.Given as goal

abbrev pub invariant-loop-i : goal.invariant-loop-i
invariant-loop-i l = l.out ≡ fill (λ k. ratio l.samples l.means (number l.sums k)) l.initial.out l.i
