-- A list and the field that it holds determine each other.
use Prim.Native.Nat.{ℕ, ◌+◌, ◌*◌, ◌/◌, ◌%◌, ◌<◌}
use mathlib.Core.Bool.{cond}
use mathlib.Core.List.{List}
use mathlib.Core.Path.{◌≡◌, refl, ap, ap₂, sym, ◌∙◌}
use native.Mathlib.Decide.{ℕ_discrete}
use native.Mathlib.Nat.{add-zero, mul-le-mul_right, mod-lt, mod-eq_of_lt, div-eq_of_lt, div-add-mod', div-lt_iff_lt-mul, mul-add-div_right, mul-add-mod_self_right}
use native.Mathlib.Omega.{arith}
use lib.Dec.{eqb}
use lib.Ieee.{Float, nan}
use lib.ListN.{length, get_or}
use lib.Seq.{ext_get_or}
use borrow.Author.Tests.{eq-eqb, ne_eqb}
use Rattle.complex.specs.Complex.{complex_of}
use Rattle.mat.specs.declared.Su3.{Su3}
use Rattle.mat.specs.Matrix.{ent}
use Rattle.geometry.specs.Radix.{volume}
use Rattle.geometry.proofs.Range.{length-listed, listed_at}
use Rattle.links.specs.Store.{cell_at, matrix_at}
use Rattle.links.specs.Field.{Field, place_of}
use Rattle.links.proofs.Laws.{entry_at, matrix_is}
use Rattle.gauge.specs.Field.{link_of, part_of, list_of, ListIsField}

-- two fields have the same links
abbrev pub Same : List ℕ → Field → Field → Type 0
Same d U W = (mu n : ℕ) → mu < 4 → n < volume d → U mu n ≡ W mu n

-- the numbers of a matrix are those from its place on
part_at : (l : List Float) (p i : ℕ) → i < 18 → part_of (matrix_at l p) i ≡ get_or l (p + i) nan
unfolding part_of cell_at
part_at l p i h = go (ℕ_discrete (i % 2) 0)
  where
    e : ent (matrix_at l p) (i / 2) ≡ cell_at l (p + 2 * (i / 2))
    e = sym (entry_at l p (i / 2) (omega arith))

    go : Dec (i % 2 ≡ 0) → cond (eqb (i % 2) 0) (ent (matrix_at l p) (i / 2)).re (ent (matrix_at l p) (i / 2)).im ≡ get_or l (p + i) nan
    go (yes z) = let q : p + 2 * (i / 2) ≡ p + i = omega arith in rw (eq-eqb (i % 2) 0 z, e, q)
    go (no z) = let q : p + 2 * (i / 2) + 1 ≡ p + i = omega arith in rw (ne_eqb (i % 2) 0 z, e, q)

module _ (d : List ℕ) where
  pub length-list : (U : Field) → length (list_of d U) ≡ 72 * volume d
  unfolding list_of
  length-list U = length-listed _ (72 * volume d)

  pub number_at : (U : Field) (k : ℕ) → k < 72 * volume d → get_or (list_of d U) k nan ≡ part_of (U (k / 18 / volume d) (k / 18 % volume d)) (k % 18)
  unfolding list_of
  number_at U k h = listed_at _ nan (72 * volume d) k h

  -- the k-th number is one of a link
  axis_of : (k : ℕ) → k < 72 * volume d → k / 18 / volume d < 4
  axis_of k h =
      let pos : 0 < volume d = omega arith in
      let few : k / 18 < 4 * volume d = omega arith in
      (div-lt_iff_lt-mul pos).1 few

  site_of : (k : ℕ) → k < 72 * volume d → k / 18 % volume d < volume d
  site_of k h = mod-lt (k / 18) (omega arith)

  pub list_same : {U W : Field} → Same d U W → list_of d U ≡ list_of d W
  list_same {U} {W} same =
      ext_get_or nan (list_of d U) (list_of d W) (length-list U ∙ sym (length-list W))
      (λ k h. let g : k < 72 * volume d = rw (length-list U) at h in
      number_at U k g
      ∙ ap (λ (u : Su3). part_of u (k % 18)) (same (k / 18 / volume d) (k / 18 % volume d) (axis_of k g) (site_of k g))
      ∙ sym (number_at W k g))

  pub list_is : (l : List Float) → length l ≡ 72 * volume d → l ≡ list_of d (link_of d l)
  list_is l len =
      ext_get_or nan l (list_of d (link_of d l)) (len ∙ sym (length-list (link_of d l)))
      (λ k h. let g : k < 72 * volume d = omega arith in
      let q = div-add-mod' (k / 18) (volume d) in
      let e : place_of (volume d) (k / 18 / volume d) (k / 18 % volume d) + k % 18 ≡ k = omega (arith, q) in
      ap (λ (x : ℕ). get_or l x nan) (sym e)
      ∙ sym (part_at l (place_of (volume d) (k / 18 / volume d) (k / 18 % volume d)) (k % 18) (omega arith))
      ∙ sym (number_at (link_of d l) k g))

  -- a list of the right length that holds U
  pub list_holds : (l : List Float) {U : Field} → length l ≡ 72 * volume d → Same d (link_of d l) U → l ≡ list_of d U
  list_holds l len same = list_is l len ∙ list_same same

  -- and the field that the list of U holds is U, where its matrices have nine entries
  module _ (U : Field) (mu n : ℕ) (axis : mu < 4) (below : n < volume d) where
    pos : 0 < volume d
    pos = omega arith

    axis_is : (mu * volume d + n) / volume d ≡ mu
    axis_is = mul-add-div_right pos mu n ∙ rw (div-eq_of_lt below) (add-zero mu)

    site_is : (mu * volume d + n) % volume d ≡ n
    site_is = mul-add-mod_self_right mu (volume d) n ∙ mod-eq_of_lt below

    part_of_lem : (k i : ℕ) → i < 18 → k ≡ place_of (volume d) mu n + i → get_or (list_of d U) k nan ≡ part_of (U mu n) i
    part_of_lem k i h e =
        let link : k / 18 ≡ mu * volume d + n = omega arith in
        let part : k % 18 ≡ i = omega arith in
        let inside : k < 72 * volume d = omega (arith, mul-le-mul_right (volume d) axis) in
        number_at U k inside ∙ rw (link, part, axis_is, site_is)

    cell_of : (k : ℕ) → k < 9 → cell_at (list_of d U) (place_of (volume d) mu n + 2 * k) ≡ ent (U mu n) k
    unfolding cell_at part_of
    cell_of k h =
        let even : 2 * k % 2 ≡ 0 = omega arith in
        let odd : (2 * k + 1) % 2 ≡ 0 → ⊥ = λ z. omega arith in
        let half : 2 * k / 2 ≡ k = omega arith in
        let under : (2 * k + 1) / 2 ≡ k = omega arith in
        ap₂ complex_of
        (part_of_lem (place_of (volume d) mu n + 2 * k) (2 * k) (omega arith) refl ∙ rw (eq-eqb (2 * k % 2) 0 even, half))
        (part_of_lem (place_of (volume d) mu n + 2 * k + 1) (2 * k + 1) (omega arith) (omega arith) ∙ rw (ne_eqb ((2 * k + 1) % 2) 0 odd, under))

  pub links_of : (U : Field) → ((mu n : ℕ) → length (U mu n).m ≡ 9) → Same d (link_of d (list_of d U)) U
  links_of U nine mu n axis below = matrix_is (list_of d U) (place_of (volume d) mu n) (U mu n) (nine mu n) (cell_of U mu n axis below)

pub list_is_field : ListIsField
list_is_field = record { list = list_is; field = links_of }
