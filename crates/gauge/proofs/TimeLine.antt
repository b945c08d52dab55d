-- The sites of a line around time have consecutive numbers.
use Prim.Native.Nat.{ℕ, zero, suc, ◌+◌, ◌*◌, ◌%◌, ◌<◌, ◌≤◌}
use mathlib.Core.List.{List, [], ◌∷◌}
use mathlib.Core.Path.{◌≡◌, refl, sym}
use native.Mathlib.Nat.{zero-add, add-zero, add_comm, div-one, mod-eq_of_lt, add-mul-mod_self_left, mul-le-mul_left, mul-add, mul-one}
use native.Mathlib.Numerals.{add-one}
use native.Mathlib.Omega.{arith}
use lib.ListN.{length, get_or}
use borrow.Author.Tests.{lt-ltb}
use Rattle.mat.specs.declared.Su3.{Su3}
use Rattle.mat.specs.Matrix.{identity_of, trace_of}
use Rattle.mat.specs.Product.{mul_of}
use Rattle.geometry.specs.Radix.{volume, index_of}
use Rattle.geometry.specs.Steps.{fwd_of}
use Rattle.geometry.specs.Stride.{stride_of, up_of}
use Rattle.geometry.proofs.Radix.{index_coords}
use Rattle.geometry.specs.Shape.{Shape}
use Rattle.geometry.proofs.Shape.{axis_in, four_are}
use Rattle.geometry.proofs.Stride.{stride_up}
use Rattle.links.specs.Field.{Field}
use Rattle.gauge.specs.Polyakov.{later_of, time_line_of, space, site_at, polyakov_trace}

-- ((1 · U_0(n)) · U_0(n + 1)) · ..
unfoldable pub line_by : Field → ℕ → ℕ → Su3
line_by U n zero = identity_of
line_by U n (suc t) = mul_of (line_by U n t) (U 0 (n + t))

pub line_none : (U : Field) (n : ℕ) → identity_of ≡ line_by U n 0
unfolding line_by
line_none U n = refl

pub line_next : (U : Field) (n t : ℕ) {p q : Su3} → p ≡ line_by U n t → q ≡ mul_of p (U 0 (n + t)) → q ≡ line_by U n (t + 1)
unfolding line_by
line_next U n t a b = rw (b, a, add-one t)

pub site_at_lem : (d : List ℕ) → 0 < length d → (t k : ℕ) → k < volume (space d) → site_at d t k ≡ t + get_or d 0 0 * k
unfolding site_at index_of
site_at_lem [] p t k h = absurd (omega arith)
site_at_lem (e ∷ d) p t k h = rw (index_coords d k h)

pub line_below : (d : List ℕ) → 0 < length d → (k t : ℕ) → k < volume (space d) → t < get_or d 0 0 → get_or d 0 0 * k + t < volume d
unfolding volume
line_below [] p k t h g = absurd (omega arith)
line_below (e ∷ d) p k t h g =
    let next : k + 1 ≤ volume d = omega arith in
    omega (arith, mul-le-mul_left e next, mul-add e k 1)

pub site_below : (d : List ℕ) → 0 < length d → (t k : ℕ) → t < get_or d 0 0 → k < volume (space d) → site_at d t k < volume d
site_below d p t k h g = rw (site_at_lem d p t k g) (omega (arith, line_below d p k t g h))

-- one step on
step_on : (d : List ℕ) (n : ℕ) → n < volume d → 0 < length d → n % get_or d 0 0 + 1 < get_or d 0 0 → fwd_of d n 0 ≡ n + 1
unfolding up_of stride_of volume
step_on d n h p g = rw (← (stride_up d n 0 h p), div-one n, lt-ltb (n % get_or d 0 0 + 1) (get_or d 0 0) g)

module _ (d : List ℕ) (axis : 0 < length d) (k : ℕ) (place : k < volume (space d)) where
  abbrev nt : ℕ
  nt = get_or d 0 0

  -- t steps on from the first site of the line
  later_is : (t : ℕ) → t < nt → later_of d (nt * k) t ≡ nt * k + t
  unfolding later_of
  later_is zero h = sym (add-zero (nt * k))
  later_is (suc t) h =
      let below = line_below d axis k t place (omega arith) in
      let coord : (nt * k + t) % nt ≡ t = rw (add_comm (nt * k) t, add-mul-mod_self_left t nt k) (mod-eq_of_lt (omega arith)) in
      rw (later_is t (omega arith), step_on d (nt * k + t) below axis (omega (arith, coord))) (omega arith)

  line_is : (U : Field) (t : ℕ) → t ≤ nt → line_by U (nt * k) t ≡ time_line_of d U (nt * k) t
  unfolding line_by time_line_of
  line_is U zero h = refl
  line_is U (suc t) h = rw (line_is U t (omega arith), later_is t h)

  pub line_by_lem : (U : Field) (t : ℕ) → t ≡ nt → line_by U (nt * k) t ≡ time_line_of d U (site_at d 0 k) nt
  line_by_lem U t e = rw (site_at_lem d axis 0 k place, zero-add (nt * k), e) (line_is U nt (omega arith))

-- ## the loop at a place

module _ (d : List ℕ) (shape : Shape d) (k : ℕ) (place : k < volume (space d)) where
  pub line_in : (t : ℕ) → t < get_or d 0 0 → get_or d 0 0 * k + t < volume d
  line_in t h = line_below d (axis_in d shape 0 (omega arith)) k t place h

  pub line_first : get_or d 0 0 * k < volume d
  line_first = omega (arith, line_in 0 (omega (arith, (shape.each 0 (omega arith)).low)))

  -- the last link is the one that brings the line round
  pub line_around : (U : Field) (p : Su3) (t : ℕ) → p ≡ line_by U (get_or d 0 0 * k) t → t + 1 ≡ get_or d 0 0 → trace_of (mul_of p (U 0 (get_or d 0 0 * k + t))) ≡ polyakov_trace d U k
  unfolding polyakov_trace
  line_around U p t e all = rw (line_next U _ t e refl, line_by_lem d (axis_in d shape 0 (omega arith)) k place U _ all)

-- ## the number of places of space

pub places_are : (d : List ℕ) → length d ≡ 4 → get_or d 1 0 * (get_or d 2 0 * get_or d 3 0) ≡ volume (space d)
unfolding volume
places_are d h = rw (four_are d h, mul-one (get_or d 3 0))
