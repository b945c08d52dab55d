-- The matrix products a·b, a·b† and a†·b: each entry is the sum from +0 of three products, in order.
use Rattle.std.specs.Prelude.{ℕ}
use Rattle.folds.specs.Folds.{fold_to}
use Rattle.complex.specs.declared.C64.{C64}
use Rattle.mat.specs.declared.Su3.{Su3}
use Rattle.complex.specs.Complex.{czero, conj_of, cadd, cmul}
use Rattle.mat.specs.Matrix.{at, tabulate}

-- ((0 + f 0) + f 1) + f 2
abbrev pub sum3 : (ℕ → C64) → C64
sum3 f = fold_to cadd czero f 3

-- entry (i, j) of a·b
unfoldable pub row_col : Su3 → Su3 → ℕ → ℕ → C64
row_col a b i j = sum3 (λ k. cmul (at a i k) (at b k j))

-- entry (i, j) of a·b†
unfoldable pub row_row : Su3 → Su3 → ℕ → ℕ → C64
row_row a b i j = sum3 (λ k. cmul (at a i k) (conj_of (at b j k)))

-- entry (i, j) of a†·b
unfoldable pub col_col : Su3 → Su3 → ℕ → ℕ → C64
col_col a b i j = sum3 (λ k. cmul (conj_of (at a k i)) (at b k j))

-- a·b
unfoldable pub mul_of : Su3 → Su3 → Su3
mul_of a b = tabulate (λ i j. row_col a b i j)

-- a·b†
unfoldable pub mul_dag_of : Su3 → Su3 → Su3
mul_dag_of a b = tabulate (λ i j. row_row a b i j)

-- a†·b
unfoldable pub dag_mul_of : Su3 → Su3 → Su3
dag_mul_of a b = tabulate (λ i j. col_col a b i j)
