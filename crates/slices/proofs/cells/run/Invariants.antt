use Rattle.std.proofs.Common.{◌≡◌, ◌*◌}
use lib.Ieee.{binary64, add}
use Rattle.folds.specs.Folds.{fold_to}
use Rattle.complex.specs.Rounded.{◌⊠◌}
use Rattle.slices.specs.Slices.{number}
use Rattle.slices.proofs.cells.run.Given as goal

abbrev pub invariant-loop-i : goal.invariant-loop-i
invariant-loop-i l = l.s ≡ fold_to (add binary64) l.sum (λ k. number l.loops k ⊠ number l.density (l.nt * k)) l.i
