-- What a store leaves: the matrix stored is the one read there, every other link is as before, and the length stays.
use Prim.Native.Nat.{ℕ, zero, suc, ◌+◌, ◌*◌, ◌<◌, ◌≤◌}
use mathlib.Core.Path.{◌≡◌, refl, ap, ap₂, sym, ◌∙◌}
use mathlib.Core.List.{List}
use native.Mathlib.Omega.{arith}
use native.Mathlib.Nat.{mul-le-mul_right}
use native.Mathlib.Decide.{dec_lt}
use lib.ListN.{length, set, length-set}
use lib.Seq.{get_or-set_same, get_or-set_other, ext_get_or}
use lib.Ieee.{Float, nan}
use Rattle.folds.specs.Folds.{iter_to}
use Rattle.complex.specs.declared.C64.{C64}
use Rattle.mat.specs.declared.Su3.{Su3}
use Rattle.complex.specs.Complex.{complex_of, cnan}
use Rattle.mat.specs.Matrix.{ent}
use Rattle.links.specs.Store.{cell_at, put_cell, matrix_at, with_matrix}
use Rattle.links.specs.Field.{link_number, place_of, Sized}

-- ## One pair

-- two pairs with no place in common
pub record Apart (a b : ℕ) : Type 0 where
  pub same : a ≡ b → ⊥
  pub left : a ≡ b + 1 → ⊥
  pub right : a + 1 ≡ b → ⊥

module _ (l : List Float) (p : ℕ) (c : C64) where
  pub length-put_cell : length (put_cell l p c) ≡ length l
  unfolding put_cell
  length-put_cell = simp length-set

  cell_same : p + 1 < length l → cell_at (put_cell l p c) p ≡ c
  unfolding cell_at put_cell
  cell_same h =
      ap₂ complex_of
      (get_or-set_other (set l p c.re) (p + 1) p c.im nan (omega arith) ∙ get_or-set_same l p c.re nan (omega arith))
      (get_or-set_same (set l p c.re) (p + 1) c.im nan (simp length-set h))

  cell_other : (q : ℕ) → Apart q p → cell_at (put_cell l p c) q ≡ cell_at l q
  unfolding cell_at put_cell
  cell_other q a =
      ap₂ complex_of
      (get_or-set_other (set l p c.re) (p + 1) q c.im nan a.left ∙ get_or-set_other l p q c.re nan a.same)
      (get_or-set_other (set l p c.re) (p + 1) (q + 1) c.im nan (λ e. a.same (omega arith)) ∙ get_or-set_other l p (q + 1) c.re nan a.right)

-- ## The first pairs of a matrix

abbrev pub put_cells : List Float → ℕ → Su3 → ℕ → List Float
put_cells l p u n = iter_to (λ k m. put_cell m (p + 2 * k) (ent u k)) l n

module _ (l : List Float) (p : ℕ) (u : Su3) where
  pub length_put_cells : (n : ℕ) → length (put_cells l p u n) ≡ length l
  unfolding iter_to
  length_put_cells zero = refl
  length_put_cells (suc n) = length-put_cell _ _ _ ∙ length_put_cells n

  cells_other : (n q : ℕ) → ((i : ℕ) → i < n → Apart q (p + 2 * i)) → cell_at (put_cells l p u n) q ≡ cell_at l q
  unfolding iter_to
  cells_other zero q h = refl
  cells_other (suc n) q h = cell_other (put_cells l p u n) (p + 2 * n) (ent u n) q (h n (omega arith)) ∙ cells_other n q (λ i g. h i (omega arith))

  cells_same : (n i : ℕ) → i < n → p + 2 * n ≤ length l → cell_at (put_cells l p u n) (p + 2 * i) ≡ ent u i
  unfolding iter_to
  cells_same zero i h g = absurd (omega arith)
  cells_same (suc n) i h g = go (cells_same n i) (dec_lt i n)
    where
      last : List Float
      last = put_cells l p u n

      go : (i < n → p + 2 * n ≤ length l → cell_at last (p + 2 * i) ≡ ent u i) → Dec (i < n) → cell_at (put_cell last (p + 2 * n) (ent u n)) (p + 2 * i) ≡ ent u i
      go ih (yes q) = cell_other last (p + 2 * n) (ent u n) (p + 2 * i) (omega arith) ∙ ih q (omega arith)
      go ih (no q) = let e : i ≡ n = omega arith in
          rw e (cell_same last (p + 2 * n) (ent u n) (rw (length_put_cells n) (omega arith)))

-- ## One matrix

pub length-with_matrix : (l : List Float) (p : ℕ) (u : Su3) → length (with_matrix l p u) ≡ length l
unfolding with_matrix
length-with_matrix l p u = length_put_cells l p u 9

-- an entry of the matrix at a place
pub entry_at : (l : List Float) (p k : ℕ) → k < 9 → cell_at l (p + 2 * k) ≡ ent (matrix_at l p) k
unfolding matrix_at
entry_at l p zero h = refl
entry_at l p (suc zero) h = refl
entry_at l p (suc (suc zero)) h = refl
entry_at l p (suc (suc (suc zero))) h = refl
entry_at l p (suc (suc (suc (suc zero)))) h = refl
entry_at l p (suc (suc (suc (suc (suc zero))))) h = refl
entry_at l p (suc (suc (suc (suc (suc (suc zero)))))) h = refl
entry_at l p (suc (suc (suc (suc (suc (suc (suc zero))))))) h = refl
entry_at l p (suc (suc (suc (suc (suc (suc (suc (suc zero)))))))) h = refl
entry_at l p (suc (suc (suc (suc (suc (suc (suc (suc (suc k))))))))) h = absurd (omega arith)

mk : List C64 → Su3
mk m = record { m = m }

-- a matrix is known by its entries
pub matrix_is : (l : List Float) (p : ℕ) (u : Su3) → length u.m ≡ 9 → ((k : ℕ) → k < 9 → cell_at l (p + 2 * k) ≡ ent u k) → matrix_at l p ≡ u
unfolding matrix_at mk
matrix_is l p u h e = ap mk (ext_get_or cnan _ u.m (sym h) (λ k g. sym (entry_at l p k g) ∙ e k g))

pub matrix_same : (l : List Float) (p : ℕ) (u : Su3) → p + 18 ≤ length l → length u.m ≡ 9 → matrix_at (with_matrix l p u) p ≡ u
unfolding with_matrix
matrix_same l p u h w = matrix_is (put_cells l p u 9) p u w (λ k g. cells_same l p u 9 k g h)

pub matrix_nine : (l : List Float) (p : ℕ) → length (matrix_at l p).m ≡ 9
unfolding matrix_at
matrix_nine l p = refl

-- ## One link of many

pub link_same : (l : List Float) (k : ℕ) (u : Su3) → 18 * k + 18 ≤ length l → length u.m ≡ 9 → matrix_at (with_matrix l (18 * k) u) (18 * k) ≡ u
link_same l k u h w = matrix_same l (18 * k) u h w

pub link_other : (l : List Float) (k : ℕ) (u : Su3) (j : ℕ) → (j ≡ k → ⊥) → matrix_at (with_matrix l (18 * k) u) (18 * j) ≡ matrix_at l (18 * j)
unfolding with_matrix
link_other l k u j n =
    matrix_is (put_cells l (18 * k) u 9) (18 * j) (matrix_at l (18 * j)) (matrix_nine l (18 * j))
    (λ i g. cells_other l (18 * k) u 9 (18 * j + 2 * i) (λ i' g'. apart i g i' g' (dec_lt j k)) ∙ entry_at l (18 * j) i g)
  where
    apart : (i : ℕ) → i < 9 → (i' : ℕ) → i' < 9 → Dec (j < k) → Apart (18 * j + 2 * i) (18 * k + 2 * i')
    apart i g i' g' (yes q) = omega arith
    apart i g i' g' (no q) = let p : k < j = omega arith in omega arith

-- two links of one number are one link
pub number_same : (v mu nu a b : ℕ) → a < v → b < v → link_number v mu a ≡ link_number v nu b → (mu ≡ nu) × (a ≡ b)
number_same v mu nu a b ha hb e = go (dec_lt mu nu) (dec_lt nu mu)
  where
    go : Dec (mu < nu) → Dec (nu < mu) → (mu ≡ nu) × (a ≡ b)
    go (yes q) r = absurd (omega (arith, mul-le-mul_right v q))
    go (no q) (yes r) = absurd (omega (arith, mul-le-mul_right v r))
    go (no q) (no r) = let f : mu ≡ nu = omega arith in (f, omega (arith, ap (λ (x : ℕ). x * v) f))

-- a link's number is below the number of links, so that it has room
pub number_below : (v mu n : ℕ) → mu < 4 → n < v → link_number v mu n < 4 * v
number_below v mu n h g = let m = mul-le-mul_right v h in omega (arith, m)

pub room : (l : List Float) (v mu n : ℕ) → Sized l v → mu < 4 → n < v → place_of v mu n + 18 ≤ length l
room l v mu n s h g = let b = number_below v mu n h g in omega (arith, b, s.len)

pub room_at : (l : List Float) (v mu n : ℕ) {p : ℕ} → Sized l v → mu < 4 → n < v → p ≡ place_of v mu n → p + 18 ≤ length l
room_at l v mu n s h g e = rw e (room l v mu n s h g)
