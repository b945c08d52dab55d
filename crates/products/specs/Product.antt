-- The product of two matrices by their entries, each a function of its row and column.
use Rattle.std.specs.Prelude.{ℕ}
use Rattle.folds.specs.Folds.{fold_to}
use Rattle.complex.specs.declared.C64.{C64}
use Rattle.complex.specs.Complex.{czero, conj_of, cadd, cmul}

-- entry (i, j) of a·b: the sum from +0 of three products, in order
unfoldable pub product_at : (ℕ → ℕ → C64) → (ℕ → ℕ → C64) → ℕ → ℕ → C64
product_at a b i j = fold_to cadd czero (λ k. cmul (a i k) (b k j)) 3

-- entry (i, j) of the conjugate transpose
unfoldable pub adjoint_at : (ℕ → ℕ → C64) → ℕ → ℕ → C64
adjoint_at a i j = conj_of (a j i)
