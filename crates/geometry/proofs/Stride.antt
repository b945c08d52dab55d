-- Moves by number: a move along an axis adds or takes away as many strides as its coordinate changes by.
use Prim.Native.Nat.{ℕ, zero, suc, ◌+◌, ◌*◌, ◌-◌, ◌/◌, ◌%◌, ◌<◌, ◌≤◌}
use mathlib.Core.List.{List, [], ◌∷◌}
use mathlib.Core.Path.{◌≡◌, refl, ap, sym, ◌∙◌}
use native.Mathlib.Decide.{dec_lt}
use native.Mathlib.Nat.{mul-add, mul_assoc, one-mul, mul-pos, mul-le-mul_left, div-one, div-div-eq-div-mul, mod_self, mod-eq_of_lt, add-mod_right}
use native.Mathlib.Omega.{arith}
use lib.ListN.{length, get_or, set, take}
use lib.Seq.{take-length}
use borrow.Author.Tests.{lt-ltb, le-ltb}
use Rattle.geometry.specs.Range.{range}
use Rattle.geometry.specs.Radix.{volume, coords_of, index_of}
use Rattle.geometry.specs.Shape.{Shape}
use Rattle.geometry.specs.Steps.{moved_of, fwd_of, bwd_of}
use Rattle.geometry.specs.Stride.{stride_of, strides_of, up_of, down_of, StepBounds}
use Rattle.geometry.proofs.Radix.{left_pos, right_pos, coords_within, index_coords}
use Rattle.geometry.proofs.Range.{listed_at}
use Rattle.geometry.proofs.Shape.{volume_pos, volume_high, axis_in}
use Rattle.geometry.proofs.Steps.{coord_below, moved_below, moved_there}

-- ## strides

pub stride_next : (d : List ℕ) (mu : ℕ) → mu < length d → stride_of d (suc mu) ≡ stride_of d mu * get_or d mu 0
unfolding stride_of volume
stride_next [] mu h = absurd (omega arith)
stride_next (e ∷ d) zero h = omega arith
stride_next (e ∷ d) (suc mu) h = rw (stride_next d mu (omega arith)) (sym (mul_assoc e (volume (take mu d)) (get_or d mu 0)))

pub stride_pos : (d : List ℕ) (mu : ℕ) → 0 < volume d → 0 < stride_of d mu
unfolding stride_of volume
stride_pos d zero h = omega arith
stride_pos [] (suc mu) h = omega arith
stride_pos (e ∷ d) (suc mu) h = mul-pos (left_pos e (volume d) h) (stride_pos d mu (right_pos e (volume d) h))

pub stride_high : (d : List ℕ) (mu : ℕ) → 0 < volume d → stride_of d mu ≤ volume d
unfolding stride_of volume
stride_high d zero h = omega arith
stride_high [] (suc mu) h = omega arith
stride_high (e ∷ d) (suc mu) h = mul-le-mul_left e (stride_high d mu (right_pos e (volume d) h))

pub stride_last : (d : List ℕ) → stride_of d (length d) ≡ volume d
unfolding stride_of
stride_last d = ap volume (take-length d)

-- one coordinate of a site
pub coord_at : (d : List ℕ) (n mu : ℕ) → mu < length d → get_or (coords_of d n) mu 0 ≡ n / stride_of d mu % get_or d mu 0
unfolding coords_of stride_of volume
coord_at [] n mu h = absurd (omega arith)
coord_at (e ∷ d) n zero h = rw div-one
coord_at (e ∷ d) n (suc mu) h = rw (← (div-div-eq-div-mul n e (volume (take mu d)))) (coord_at d (n / e) mu (omega arith))

-- one coordinate changed in a number
pub index_set : (d cs : List ℕ) (mu v : ℕ) → length cs ≡ length d → mu < length d
    → index_of d (set cs mu v) + stride_of d mu * get_or cs mu 0 ≡ index_of d cs + stride_of d mu * v
unfolding index_of stride_of volume
index_set [] cs mu v l h = absurd (omega arith)
index_set (e ∷ d) [] mu v l h = absurd (omega arith)
index_set (e ∷ d) (c ∷ cs) zero v l h = omega arith
index_set (e ∷ d) (c ∷ cs) (suc mu) v l h =
    let s = volume (take mu d) in
    let i = ap (λ (x : ℕ). e * x) (index_set d cs mu v (omega arith) (omega arith)) in
    let a = mul-add e (index_of d (set cs mu v)) (s * get_or cs mu 0) in
    let b = mul-add e (index_of d cs) (s * v) in
    let f = mul_assoc e s (get_or cs mu 0) in
    let g = mul_assoc e s v in
    omega (arith, i, a, b, f, g)

-- a coordinate's share of a number
pub index_over : (d cs : List ℕ) (mu : ℕ) → length cs ≡ length d → mu < length d → stride_of d mu * get_or cs mu 0 ≤ index_of d cs
unfolding index_of stride_of volume
index_over [] cs mu l h = absurd (omega arith)
index_over (e ∷ d) [] mu l h = absurd (omega arith)
index_over (e ∷ d) (c ∷ cs) zero l h = omega arith
index_over (e ∷ d) (c ∷ cs) (suc mu) l h =
    let s = volume (take mu d) in
    let i = mul-le-mul_left e (index_over d cs mu (omega arith) (omega arith)) in
    omega (arith, i, mul_assoc e s (get_or cs mu 0))

-- ## moves

module _ (d : List ℕ) (n mu : ℕ) (below : n < volume d) (axis : mu < length d) where
  pos : 0 < volume d
  pos = omega arith

  abbrev c : ℕ
  c = get_or (coords_of d n) mu 0

  abbrev e : ℕ
  e = get_or d mu 0

  abbrev s : ℕ
  s = stride_of d mu

  abbrev w : ℕ
  w = stride_of d (suc mu)

  small : c < e
  small = coord_below d pos n mu axis

  whole : w ≡ s * e
  whole = stride_next d mu axis

  pub coord_over : stride_of d mu * get_or (coords_of d n) mu 0 ≤ n
  coord_over = rw (index_coords d n below) at (index_over d (coords_of d n) mu (coords_within d n pos).len axis)

  pub moved_by : (k : ℕ) → moved_of d n mu k + stride_of d mu * get_or (coords_of d n) mu 0 ≡ n + stride_of d mu * ((get_or (coords_of d n) mu 0 + k) % get_or d mu 0)
  unfolding moved_of
  moved_by k = rw (index_coords d n below) at (index_set d (coords_of d n) mu ((c + k) % e) (coords_within d n pos).len axis)

  pub step_up : up_of n (get_or (coords_of d n) mu 0) (get_or d mu 0) (stride_of d mu) (stride_of d (suc mu)) ≡ fwd_of d n mu
  unfolding up_of fwd_of
  step_up = go (dec_lt (c + 1) e)
    where
      go : Dec (c + 1 < e) → up_of n c e s w ≡ fwd_of d n mu
      go (yes h) = let m = rw (mod-eq_of_lt h, mul-add s c 1) at (moved_by 1) in rw (lt-ltb (c + 1) e h) (omega (arith, m))
      go (no h) =
          let f : c + 1 ≡ e = omega (arith, small) in
          let z : (c + 1) % e ≡ 0 = rw f (mod_self e) in
          let m = rw z at (moved_by 1) in
          let g : w ≡ s * c + s * 1 = whole ∙ ap (λ (y : ℕ). s * y) (sym f) ∙ mul-add s c 1 in
          rw (le-ltb (c + 1) e (omega arith)) (omega (arith, m, g))

  pub step_down : down_of n (get_or (coords_of d n) mu 0) (stride_of d mu) (stride_of d (suc mu)) ≡ bwd_of d n mu
  unfolding down_of bwd_of
  step_down = go (dec_lt 0 c)
    where
      go : Dec (0 < c) → down_of n c s w ≡ bwd_of d n mu
      go (yes h) =
          let p : c + (e - 1) ≡ (c - 1) + e = omega (arith, small) in
          let q : c - 1 < e = omega (arith, small) in
          let z : (c + (e - 1)) % e ≡ c - 1 = rw (p, add-mod_right (c - 1) e) (mod-eq_of_lt q) in
          let m = rw z at (moved_by (e - 1)) in
          let k : c - 1 + 1 ≡ c = omega arith in
          let g : s * c ≡ s * (c - 1) + s * 1 = ap (λ (y : ℕ). s * y) (sym k) ∙ mul-add s (c - 1) 1 in
          rw (lt-ltb 0 c h) (omega (arith, m, g))
      go (no h) =
          let p : c ≡ 0 = omega arith in
          let q : c + (e - 1) < e = omega (arith, small) in
          let m = rw (mod-eq_of_lt q) at (moved_by (e - 1)) in
          let k : e - 1 + 1 ≡ e = omega (arith, small) in
          let g : w ≡ s * (e - 1) + s * 1 = whole ∙ ap (λ (y : ℕ). s * y) (sym k) ∙ mul-add s (e - 1) 1 in
          let l : s * (c + (e - 1)) ≡ s * (e - 1) = ap (λ (y : ℕ). s * y) (omega arith) in
          let z : s * c ≡ s * 0 = ap (λ (y : ℕ). s * y) p in
          rw (le-ltb 0 c (omega arith)) (omega (arith, m, g, l, z))

  -- the same with the one coordinate that a step needs
  pub stride_up : up_of n (n / stride_of d mu % get_or d mu 0) (get_or d mu 0) (stride_of d mu) (stride_of d (suc mu)) ≡ fwd_of d n mu
  stride_up = rw (← (coord_at d n mu axis)) step_up

-- moves along two axes shift a number by the sum of their shifts
pub corner : (d : List ℕ) (n mu k nu j : ℕ) → n < volume d → mu < length d → nu < length d → (nu ≡ mu → ⊥)
    → moved_of d (moved_of d n mu k) nu j + n ≡ moved_of d n mu k + moved_of d n nu j
corner d n mu k nu j below axis other ne =
    let pos : 0 < volume d = omega arith in
    let m = moved_of d n mu k in
    let a = moved_by d n nu below other j in
    let b = rw (moved_there d pos n mu axis k nu ne) at (moved_by d m nu (moved_below d pos n mu axis k) other j) in
    omega (arith, a, b)

-- ## a field's strides

pub stride_of_lem : (d : List ℕ) (mu : ℕ) → mu < 5 → get_or (strides_of d) mu 0 ≡ stride_of d mu
unfolding strides_of
stride_of_lem d mu h = listed_at (stride_of d) 0 5 mu h

-- the last is the number of sites
pub sites_last : (d : List ℕ) → Shape d → {s : List ℕ} → s ≡ strides_of d → get_or s 4 0 ≡ volume d
sites_last d shape e = rw (e, stride_of_lem d 4 (omega arith)) (ap (stride_of d) (sym shape.four) ∙ stride_last d)

-- as the code multiplies
pub strides_are : (d : List ℕ) → length d ≡ 4
    → 1 ∷ get_or d 0 0 ∷ get_or d 0 0 * get_or d 1 0 ∷ get_or d 0 0 * get_or d 1 0 * get_or d 2 0 ∷ get_or d 0 0 * get_or d 1 0 * get_or d 2 0 * get_or d 3 0 ∷ [] ≡ strides_of d
unfolding strides_of range
strides_are d h =
    rw (stride_next d 3 (omega arith), stride_next d 2 (omega arith), stride_next d 1 (omega arith), stride_next d 0 (omega arith), first, one-mul (get_or d 0 0))
  where
    first : stride_of d 0 ≡ 1
    first = unfold stride_of volume in refl

module _ (d : List ℕ) (shape : Shape d) (n mu : ℕ) (below : n < volume d) (axis : mu < 4) where
  pub step_fits : StepBounds n (get_or (coords_of d n) mu 0) (get_or d mu 0) (stride_of d mu) (stride_of d (suc mu))
  step_fits =
      let c = get_or (coords_of d n) mu 0 in
      let e = get_or d mu 0 in
      let s = stride_of d mu in
      let x = shape.each mu axis in
      let v = volume_high d shape in
      let p = volume_pos d shape in
      let i = axis_in d shape mu axis in
      let q = stride_next d mu i in
      let o = coord_over d n mu below i in
      let small = coord_below d p n mu i in
      let one = mul-le-mul_left s (let a : 1 ≤ e = omega (arith, x.low) in a) in
      record {
        site = omega (arith, v);
        stride = omega (arith, q, one);
        span = omega (arith, v, stride_high d (suc mu) p);
        within = omega (arith, small, x.high);
        last = λ h. let f : e ≡ c + 1 = omega (arith, small, h) in omega (arith, q, o, ap (λ (y : ℕ). s * y) f, mul-add s c 1);
        back = λ h. let g = mul-le-mul_left s (let a : 1 ≤ c = h in a) in omega (arith, g, o);
      }
