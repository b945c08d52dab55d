-- The entries of a matrix that is given as a table, and the rows of one that has nine.
use Prim.Native.Nat.{ℕ, ◌<◌}
use mathlib.Core.List.{List, [], ◌∷◌}
use mathlib.Core.Path.{◌≡◌, refl}
use native.Mathlib.Omega.{arith}
use lib.ListN.{length}
use Rattle.folds.specs.Folds.{fold_to}
use Rattle.folds.proofs.Few.{below_three}
use Rattle.complex.specs.declared.C64.{C64}
use Rattle.mat.specs.declared.Su3.{Su3}
use Rattle.mat.specs.Matrix.{at, tabulate, dagger_of}
use Rattle.mat.specs.Product.{row_col, row_row, col_col, mul_of, mul_dag_of, dag_mul_of}
use Rattle.products.specs.Product.{product_at, adjoint_at}
use Rattle.mat.specs.Unitary.{row_of, of_rows}

pub table_at : (f : ℕ → ℕ → C64) (i j : ℕ) → i < 3 → j < 3 → f i j ≡ at (tabulate f) i j
table_at f i j h g = below_three (λ i. f i j ≡ at (tabulate f) i j) (row 0 refl refl refl) (row 1 refl refl refl) (row 2 refl refl refl) i h
  where
    row : (i : ℕ) → f i 0 ≡ at (tabulate f) i 0 → f i 1 ≡ at (tabulate f) i 1 → f i 2 ≡ at (tabulate f) i 2 → f i j ≡ at (tabulate f) i j
    row i x y z = below_three (λ j. f i j ≡ at (tabulate f) i j) x y z j g

pub mul_at : (a b : Su3) (i j : ℕ) → i < 3 → j < 3 → product_at (at a) (at b) i j ≡ at (mul_of a b) i j
unfolding mul_of row_col product_at
mul_at a b i j h g = table_at (λ i j. row_col a b i j) i j h g

-- ## products, by their factors' entries
module _ (a b : Su3) where
  pub product_is : tabulate (product_at (at a) (at b)) ≡ mul_of a b
  unfolding mul_of row_col product_at
  product_is = refl

  pub product_dagger : tabulate (product_at (at a) (adjoint_at (at b))) ≡ mul_dag_of a b
  unfolding mul_dag_of row_row product_at adjoint_at
  product_dagger = refl

  pub dagger_product : tabulate (product_at (adjoint_at (at a)) (at b)) ≡ dag_mul_of a b
  unfolding dag_mul_of col_col product_at adjoint_at
  dagger_product = refl

  pub dagger_dagger : tabulate (product_at (adjoint_at (at a)) (adjoint_at (at b))) ≡ dag_mul_of a (dagger_of b)
  unfolding dag_mul_of col_col product_at adjoint_at dagger_of fold_to
  dagger_dagger = refl

pub ruleset products = (product_is, product_dagger, dagger_product, dagger_dagger)

-- ## rows
nine_are_rows : (m : List C64) → length m ≡ 9 → record { m = m } ≡ of_rows (row_of (record { m = m }) 0) (row_of (record { m = m }) 1) (row_of (record { m = m }) 2)
unfolding row_of of_rows
nine_are_rows [] h = absurd (omega arith)
nine_are_rows (a ∷ []) h = absurd (omega arith)
nine_are_rows (a ∷ b ∷ []) h = absurd (omega arith)
nine_are_rows (a ∷ b ∷ c ∷ []) h = absurd (omega arith)
nine_are_rows (a ∷ b ∷ c ∷ d ∷ []) h = absurd (omega arith)
nine_are_rows (a ∷ b ∷ c ∷ d ∷ e ∷ []) h = absurd (omega arith)
nine_are_rows (a ∷ b ∷ c ∷ d ∷ e ∷ f ∷ []) h = absurd (omega arith)
nine_are_rows (a ∷ b ∷ c ∷ d ∷ e ∷ f ∷ g ∷ []) h = absurd (omega arith)
nine_are_rows (a ∷ b ∷ c ∷ d ∷ e ∷ f ∷ g ∷ i ∷ []) h = absurd (omega arith)
nine_are_rows (a ∷ b ∷ c ∷ d ∷ e ∷ f ∷ g ∷ i ∷ j ∷ []) h = refl
nine_are_rows (a ∷ b ∷ c ∷ d ∷ e ∷ f ∷ g ∷ i ∷ j ∷ k ∷ l) h = absurd (omega arith)

pub rows_are : (u : Su3) → length u.m ≡ 9 → u ≡ of_rows (row_of u 0) (row_of u 1) (row_of u 2)
rows_are u h = nine_are_rows u.m h
