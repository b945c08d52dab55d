use Rattle.std.proofs.Common.{◌≡◌, ◌*◌, ℕ, zero, suc, List, [], ◌++◌, take, length, Float}
use Rattle.mat.specs.declared.Su3.{Su3}
use Rattle.mat.specs.Matrix.{nth_matrix}
use Rattle.mat.specs.Numbers.{matrix_numbers}
use Rattle.arrays.proofs.plane_numbers.Given as goal

-- the numbers of the first p matrices
unfoldable pub first : List Su3 → ℕ → List Float
first f zero = []
first f (suc p) = first f p ++ matrix_numbers (nth_matrix f p)

abbrev pub invariant-loop-p : goal.invariant-loop-p
invariant-loop-p l = (length l.out ≡ 108) × (take (18 * l.p) l.out ≡ first l.fn.f l.p)
