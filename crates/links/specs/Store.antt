-- A matrix in a list of numbers: nine complex numbers, row by row, each a pair, real first.
use Rattle.std.specs.Prelude.{ℕ, ◌+◌, ◌*◌, List, get_or, set, Float}
use Rattle.std.specs.Float.{nan}
use Rattle.folds.specs.Folds.{iter_to}
use Rattle.complex.specs.declared.C64.{C64}
use Rattle.mat.specs.declared.Su3.{Su3}
use Rattle.mat.specs.Matrix.{each, ent}

-- the pair at a place
unfoldable pub cell_at : List Float → ℕ → C64
cell_at l p = record { re = get_or l p nan; im = get_or l (p + 1) nan }

-- the list with another pair there
unfoldable pub put_cell : List Float → ℕ → C64 → List Float
put_cell l p c = set (set l p c.re) (p + 1) c.im

-- the matrix at a place
unfoldable pub matrix_at : List Float → ℕ → Su3
matrix_at l p = each (λ k. cell_at l (p + 2 * k))

-- the list with another matrix there
unfoldable pub with_matrix : List Float → ℕ → Su3 → List Float
with_matrix l p u = iter_to (λ k m. put_cell m (p + 2 * k) (ent u k)) l 9
