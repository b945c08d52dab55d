-- Lists by their places: one place more, row 10's test, and the lists that the calls fill.
use Prim.Native.Nat.{ℕ, zero, suc, ◌+◌, ◌-◌, ◌*◌, ◌/◌, ◌%◌, ◌<◌, ◌≤◌}
use mathlib.Core.Bool.{◌&&◌}
use mathlib.Core.List.{List, [], ◌∷◌, ◌++◌, map, append-nil}
use mathlib.Core.Path.{◌≡◌, refl, ap, sym, ◌∙◌}
use native.Mathlib.Decide.{dec_lt}
use native.Mathlib.Nat.{zero-mul, mul-le-mul_right}
use native.Mathlib.Numerals.{add-one}
use native.Mathlib.Omega.{arith}
use lib.Ieee.{Float, nan}
use lib.Ieee.Scale.{finite}
use lib.ListN.{length, get_or, take, drop, length-append, length-take, length-drop, get_or-append}
use lib.Seq.{ext_get_or, get_or-append_right}
use borrow.Rule.Slice.PartMut.{put_mid}
use Rattle.std.specs.List.{list_all}
use Rattle.std.proofs.lemmas.Grind.{flat_map-append}
use Rattle.std.proofs.lemmas.Nat.{div-mul-add, mod-mul-add}
use Rattle.std.proofs.lemmas.Slice.{take-put_mid}
use Rattle.std.proofs.lemmas.List.Folds.{list_all-append}
use Rattle.folds.specs.Folds.{all_below}
use Rattle.folds.proofs.Lists.{all_listed}
use Rattle.geometry.specs.Range.{range}
use Rattle.rows.specs.Finite.{finite_numbers}
use Rattle.std.proofs.lemmas.List.Concat.{flat_map_single}
use Rattle.mat.specs.declared.Su3.{Su3}
use Rattle.geometry.specs.Radix.{volume}
use Rattle.links.specs.Field.{Field}
use Rattle.geometry.proofs.Range.{listed_at}
use Rattle.gauge.specs.Field.{link_of, part_of, list_of}
use Rattle.gauge.proofs.Lists.{length-list, number_at}
use Rattle.mat.specs.Numbers.{matrix_numbers}
use Rattle.strength.specs.declared.Density.{Density}
use Rattle.strength.specs.Densities.{density_of}
use Rattle.fields.specs.Calls.{smeared, smeared_list, density_list}
use Rattle.fields.specs.Places.{placed, link_numbers, density_numbers}

-- ## row 10's test of lists laid one after the other

finite_list : (l : List Float) → list_all finite l ≡ finite_numbers l
unfolding finite_numbers
finite_list l = sym (all_listed finite l nan)

finite_append : (xs ys : List Float) → finite_numbers (xs ++ ys) ≡ finite_numbers xs && finite_numbers ys
finite_append xs ys = sym (finite_list (xs ++ ys)) ∙ list_all-append finite xs ys ∙ rw (finite_list xs, finite_list ys)

module _ (f : ℕ → List Float) where
  pub placed_next : (k : ℕ) → placed f (k + 1) ≡ placed f k ++ f k
  unfolding placed range
  placed_next k = rw (add-one k, flat_map-append f (range k) (k ∷ []), append-nil)

  pub finite_placed : (places : ℕ) → all_below (λ k. finite_numbers (f k)) places ≡ finite_numbers (placed f places)
  unfolding all_below
  finite_placed zero = unfold placed range finite_numbers in refl
  finite_placed (suc k) = rw (← add-one k, placed_next k, finite_append, finite_placed k)

  -- the next place stored
  pub store_next : (width places k : ℕ) (l xs : List Float) → k < places → length l ≡ places * width → xs ≡ f k
      → length xs ≡ length (take ((k + 1) * width - k * width) (drop (k * width) l)) → take (k * width) l ≡ placed f k
      → take ((k + 1) * width) (put_mid (k * width) ((k + 1) * width - k * width) l xs) ≡ placed f (k + 1)
  store_next width places k l xs below len same part before =
      let next : k + 1 ≤ places = omega arith in
      let room : (k + 1) * width ≤ length l = rw len (mul-le-mul_right width next) in
      let step : (k + 1) * width ≡ k * width + width = omega arith in
      let wide : length xs ≡ width = part ∙ simp (length-take, length-drop) (omega arith) in
      take-put_mid (k * width) ((k + 1) * width - k * width) l xs ((k + 1) * width) (omega arith) (omega arith) ∙ rw (before, same) (sym (placed_next k))

  -- places of one width
  module _ (width : ℕ) (each : (k : ℕ) → length (f k) ≡ width) where
    length-placed : (n : ℕ) → length (placed f n) ≡ n * width
    length-placed zero = unfold placed range in sym (zero-mul width)
    length-placed (suc n) = rw (← add-one n, placed_next n, length-append, length-placed n, each n) (omega arith)

    placed_at : (n j : ℕ) → j < n * width → get_or (placed f n) j nan ≡ get_or (f (j / width)) (j % width) nan
    placed_at zero j h = absurd (omega (arith, zero-mul width))
    placed_at (suc n) j h = rw (← add-one n, placed_next n) (go (placed_at n j) (dec_lt j (n * width)))
      where
        go : (j < n * width → get_or (placed f n) j nan ≡ get_or (f (j / width)) (j % width) nan) → Dec (j < n * width)
            → get_or (placed f n ++ f n) j nan ≡ get_or (f (j / width)) (j % width) nan
        go before (yes g) = get_or-append (placed f n) (f n) nan j (rw (length-placed n) g) ∙ before g
        go before (no g) =
            let i : ℕ = j - n * width in
            let is : n * width + i ≡ j = omega arith in
            let below : i < width = omega arith in
            let place : j / width ≡ n = rw is at (div-mul-add n width i below) in
            let rest : j % width ≡ i = rw is at (mod-mul-add n width i below) in
            get_or-append_right (placed f n) (f n) j nan (rw (length-placed n) (omega arith)) ∙ rw (length-placed n, place, rest)

-- ## the lists that the calls fill

pub densities_listed : (d : List ℕ) (l : List Float) (kind : Density) → placed (density_numbers d l kind) (volume d) ≡ density_list d kind l
unfolding placed density_numbers density_list
densities_listed d l kind = flat_map_single (density_of d (link_of d l) kind) (range (volume d))

matrix_parts : (u : Su3) → matrix_numbers u ≡ map (part_of u) (range 18)
unfolding matrix_numbers range part_of
matrix_parts u = refl

pub links_listed : (d : List ℕ) (l : List Float) (rho : Float) → placed (link_numbers d l rho) (4 * volume d) ≡ smeared_list d rho l
unfolding link_numbers matrix_numbers smeared_list
links_listed d l rho =
    ext_get_or nan (placed f n) (list_of d U) (length-placed f 18 (λ k. refl) n ∙ omega (arith, length-list d U))
    (λ j h. let g : j < n * 18 = rw (length-placed f 18 (λ k. refl) n) at h in
    placed_at f 18 (λ k. refl) n j g
    ∙ ap (λ (m : List Float). get_or m (j % 18) nan) (matrix_parts (U (j / 18 / volume d) (j / 18 % volume d)))
    ∙ listed_at (part_of (U (j / 18 / volume d) (j / 18 % volume d))) nan 18 (j % 18) (omega arith)
    ∙ sym (number_at d U j (omega arith)))
  where
    n : ℕ
    n = 4 * volume d

    U : Field
    U = smeared d (link_of d l) rho

    f : ℕ → List Float
    f = link_numbers d l rho
