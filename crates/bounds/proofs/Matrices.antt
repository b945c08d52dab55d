-- Operations on complex numbers and on matrices keep bounds by powers of two, with another exponent.
use Prim.Native.Nat.{ℕ, zero, suc, ◌+◌, ◌*◌, ◌/◌, ◌%◌, ◌≤◌, ◌<◌}
use mathlib.Core.List.{List, [], ◌∷◌}
use mathlib.Core.Path.{◌≡◌, subst}
use native.Mathlib.Omega.{arith}
use lib.Dec.{T, leb, lit≤}
use lib.ListN.{get_or, set}
use lib.Ieee.{Float}
use Rattle.folds.specs.Folds.{fold_to}
use Rattle.complex.specs.declared.C64.{C64}
use Rattle.mat.specs.declared.Su3.{Su3}
use Rattle.complex.specs.Complex.{czero, cnan, conj_of, cscale, cadd, csub, cmul}
use Rattle.mat.specs.Matrix.{at, ent, tabulate, each, dagger_of, scale_of, add_of, sub_of, trace_of, re_tr}
use Rattle.mat.specs.Product.{sum3, row_col, row_row, col_col, mul_of, mul_dag_of, dag_mul_of}
use Rattle.mat.specs.Traceless.{anti_of, sub_diag, traceless_of}
use Rattle.mat.proofs.Tables.{table_at}
use Rattle.bounds.specs.Magnitude.{Magnitude}
use Rattle.bounds.proofs.Numbers.{magnitude_mono, magnitude_neg, magnitude_mul, magnitude_add, magnitude_sub, sum_grows, magnitude_zero, magnitude_half, magnitude_third}

-- both parts of a complex number
pub record ComplexMagnitude (k : ℕ) (z : C64) : Type 0 where
  pub re : Magnitude k z.re
  pub im : Magnitude k z.im

-- the nine entries of a matrix
pub record MatrixMagnitude (k : ℕ) (u : Su3) : Type 0 where
  pub entry : (i : ℕ) → i < 9 → ComplexMagnitude k (ent u i)

-- ## Complex numbers

module _ {z : C64} where
  pub complex_mono : {j k : ℕ} → j ≤ k → ComplexMagnitude j z → ComplexMagnitude k z
  complex_mono h a = record { re = magnitude_mono h a.re; im = magnitude_mono h a.im }

  pub magnitude_conj_of : {k : ℕ} → ComplexMagnitude k z → ComplexMagnitude k (conj_of z)
  unfolding conj_of
  magnitude_conj_of a = record { re = a.re; im = magnitude_neg a.im }

  pub magnitude_cscale : {s : Float} {j k : ℕ} → ComplexMagnitude j z → Magnitude k s → ComplexMagnitude (j + k) (cscale z s)
  unfolding cscale
  magnitude_cscale a b = record { re = magnitude_mul a.re b; im = magnitude_mul a.im b }

  module _ {w : C64} where
    pub magnitude_cadd : {k : ℕ} → ComplexMagnitude k z → ComplexMagnitude k w → ComplexMagnitude (k + 1) (cadd z w)
    unfolding cadd
    magnitude_cadd a b = record { re = magnitude_add a.re b.re; im = magnitude_add a.im b.im }

    pub magnitude_csub : {k : ℕ} → ComplexMagnitude k z → ComplexMagnitude k w → ComplexMagnitude (k + 1) (csub z w)
    unfolding csub
    magnitude_csub a b = record { re = magnitude_sub a.re b.re; im = magnitude_sub a.im b.im }

    pub magnitude_cmul : {j k : ℕ} → ComplexMagnitude j z → ComplexMagnitude k w → ComplexMagnitude (j + k + 1) (cmul z w)
    unfolding cmul
    magnitude_cmul a b = record {
      re = magnitude_sub (magnitude_mul a.re b.re) (magnitude_mul a.im b.im);
      im = magnitude_add (magnitude_mul a.re b.im) (magnitude_mul a.im b.re);
    }

pub magnitude_czero : {k : ℕ} → ComplexMagnitude k czero
magnitude_czero = record { re = magnitude_zero; im = magnitude_zero }

pub complex_sum : {z : C64} {f : ℕ → C64} {k : ℕ} → ComplexMagnitude k z → (n : ℕ) → ((i : ℕ) → i < n → ComplexMagnitude k (f i)) → ComplexMagnitude (k + n) (fold_to cadd z f n)
complex_sum = sum_grows ComplexMagnitude cadd (λ z j k. complex_mono) (λ z w k. magnitude_cadd)

-- ## Matrices by their entries

pub magnitude_at : {u : Su3} {k : ℕ} → MatrixMagnitude k u → (i j : ℕ) → i < 3 → j < 3 → ComplexMagnitude k (at u i j)
magnitude_at a i j g h = a.entry (3 * i + j) (omega arith)

pub magnitude_tabulate : {f : ℕ → ℕ → C64} {k : ℕ} → ((i j : ℕ) → i < 3 → j < 3 → ComplexMagnitude k (f i j)) → MatrixMagnitude k (tabulate f)
magnitude_tabulate {f} {k} a = record {
  entry = λ n g.
      let i = n / 3 in
      let j = n % 3 in
      let e : 3 * i + j ≡ n = omega arith in
      subst (λ (m : ℕ). ComplexMagnitude k (ent (tabulate f) m)) e
      (subst (ComplexMagnitude k) (table_at f i j (omega arith) (omega arith)) (a i j (omega arith) (omega arith)));
}

pub magnitude_each : {f : ℕ → C64} {k : ℕ} → ((i : ℕ) → i < 9 → ComplexMagnitude k (f i)) → MatrixMagnitude k (each f)
magnitude_each {f} a = magnitude_tabulate {f = λ i j. f (3 * i + j)} (λ i j g h. a (3 * i + j) (omega arith))

magnitude_set : {v : C64} {k : ℕ} → ComplexMagnitude k v → (l : List C64) (i j : ℕ) → ComplexMagnitude k (get_or l j cnan) → ComplexMagnitude k (get_or (set l i v) j cnan)
magnitude_set a [] i j b = b
magnitude_set a (x ∷ l) zero zero b = a
magnitude_set a (x ∷ l) zero (suc j) b = b
magnitude_set a (x ∷ l) (suc i) zero b = b
magnitude_set a (x ∷ l) (suc i) (suc j) b = magnitude_set a l i j b

-- another diagonal
magnitude_diagonal : {u : Su3} {x y z : C64} {k : ℕ} → MatrixMagnitude k u → ComplexMagnitude k x → ComplexMagnitude k y → ComplexMagnitude k z → MatrixMagnitude k (record { m = set (set (set u.m 0 x) 4 y) 8 z })
magnitude_diagonal {u} {x} {y} a b c d = record {
  entry = λ i g. magnitude_set d (set (set u.m 0 x) 4 y) 8 i (magnitude_set c (set u.m 0 x) 4 i (magnitude_set b u.m 0 i (a.entry i g)));
}

-- ## Entry by entry

module _ {u : Su3} where
  pub matrix_mono : {j k : ℕ} → j ≤ k → MatrixMagnitude j u → MatrixMagnitude k u
  matrix_mono h a = record { entry = λ i g. complex_mono h (a.entry i g) }

  pub magnitude_dagger_of : {k : ℕ} → MatrixMagnitude k u → MatrixMagnitude k (dagger_of u)
  unfolding dagger_of
  magnitude_dagger_of a = magnitude_tabulate (λ i j g h. magnitude_conj_of (magnitude_at a j i h g))

  pub magnitude_scale_of : {s : Float} {j k : ℕ} → MatrixMagnitude j u → Magnitude k s → MatrixMagnitude (j + k) (scale_of u s)
  unfolding scale_of
  magnitude_scale_of a b = magnitude_each (λ i g. magnitude_cscale (a.entry i g) b)

  module _ {v : Su3} where
    pub magnitude_add_of : {k : ℕ} → MatrixMagnitude k u → MatrixMagnitude k v → MatrixMagnitude (k + 1) (add_of u v)
    unfolding add_of
    magnitude_add_of a b = magnitude_each (λ i g. magnitude_cadd (a.entry i g) (b.entry i g))

    pub magnitude_sub_of : {k : ℕ} → MatrixMagnitude k u → MatrixMagnitude k v → MatrixMagnitude (k + 1) (sub_of u v)
    unfolding sub_of
    magnitude_sub_of a b = magnitude_each (λ i g. magnitude_csub (a.entry i g) (b.entry i g))

-- ## Products

-- a sum from 0 of three products
product_entry : {f g : ℕ → C64} {j k : ℕ} → ((i : ℕ) → i < 3 → ComplexMagnitude j (f i)) → ((i : ℕ) → i < 3 → ComplexMagnitude k (g i)) → ComplexMagnitude (j + k + 4) (sum3 (λ i. cmul (f i) (g i)))
product_entry a b = complex_mono (omega arith) (complex_sum magnitude_czero 3 (λ i l. magnitude_cmul (a i l) (b i l)))

module _ {u v : Su3} {j k : ℕ} (a : MatrixMagnitude j u) (b : MatrixMagnitude k v) where
  pub magnitude_mul_of : MatrixMagnitude (j + k + 4) (mul_of u v)
  unfolding mul_of row_col
  magnitude_mul_of = magnitude_tabulate (λ i j g h. product_entry (λ k l. magnitude_at a i k g l) (λ k l. magnitude_at b k j l h))

  pub magnitude_mul_dag_of : MatrixMagnitude (j + k + 4) (mul_dag_of u v)
  unfolding mul_dag_of row_row
  magnitude_mul_dag_of = magnitude_tabulate (λ i j g h. product_entry (λ k l. magnitude_at a i k g l) (λ k l. magnitude_conj_of (magnitude_at b j k h l)))

  pub magnitude_dag_mul_of : MatrixMagnitude (j + k + 4) (dag_mul_of u v)
  unfolding dag_mul_of col_col
  magnitude_dag_mul_of = magnitude_tabulate (λ i j g h. product_entry (λ k l. magnitude_conj_of (magnitude_at a k i l g)) (λ k l. magnitude_at b k j l h))

-- ## Traces, and the traceless anti-Hermitian part

module _ {u : Su3} {k : ℕ} (a : MatrixMagnitude k u) where
  pub magnitude_trace_of : ComplexMagnitude (k + 2) (trace_of u)
  unfolding trace_of
  magnitude_trace_of = complex_mono (omega arith) (magnitude_cadd (magnitude_cadd (a.entry 0 (lit≤ tt)) (a.entry 4 (lit≤ tt))) (complex_mono (omega arith) (a.entry 8 (lit≤ tt))))

  pub magnitude_re_tr : Magnitude (k + 2) (re_tr u)
  unfolding re_tr
  magnitude_re_tr = magnitude_mono (omega arith) (magnitude_add (magnitude_add (a.entry 0 (lit≤ tt)).re (a.entry 4 (lit≤ tt)).re) (magnitude_mono (omega arith) (a.entry 8 (lit≤ tt)).re))

  pub magnitude_anti_of : MatrixMagnitude (k + 1) (anti_of u)
  unfolding anti_of
  magnitude_anti_of = matrix_mono (omega arith) (magnitude_scale_of (magnitude_sub_of a (magnitude_dagger_of a)) magnitude_half)

pub magnitude_sub_diag : {u : Su3} {t : C64} {k : ℕ} → MatrixMagnitude k u → ComplexMagnitude k t → MatrixMagnitude (k + 1) (sub_diag u t)
unfolding sub_diag
magnitude_sub_diag {u} {t} {k} a b = magnitude_diagonal (matrix_mono (omega arith) a) (less 0 tt) (less 4 tt) (less 8 tt)
  where
    less : (i : ℕ) → T (leb (suc i) 9) → ComplexMagnitude (k + 1) (csub (ent u i) t)
    less i g = magnitude_csub (a.entry i (lit≤ g)) b

pub magnitude_traceless_of : {u : Su3} {k : ℕ} → MatrixMagnitude k u → MatrixMagnitude (k + 4) (traceless_of u)
unfolding traceless_of
magnitude_traceless_of a =
    let r = magnitude_anti_of a in
    matrix_mono (omega arith) (magnitude_sub_diag (matrix_mono (omega arith) r) (magnitude_cscale (magnitude_trace_of r) magnitude_third))
