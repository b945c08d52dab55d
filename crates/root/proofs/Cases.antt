-- The cases of `sqrt`, by its tests. Assumes nothing.
use Rattle.std.proofs.Common.{◌≡◌, ℕ, zero, suc, ◌+◌, ◌-◌, ◌*◌, ◌/◌, ◌^◌, ◌<◌, ◌≤◌, Bool, true, false, not, ◌&&◌, ◌||◌, T, eqb, ltb, ◌⊎◌, ℤ, pos, sym, refl, ap, ◌∙◌, subst, inl, inr, ⊎_elim, true≢false, le_trans, le_of_eq, lt_of_lt_of_le, lt_irrefl, mul-le-mul_right, mod-eq_of_lt, zero-lt-suc, div-lt_iff_lt-mul, mul-lt-mul_of_pos_right, mul-pos, one-mul, le-div_iff_mul-le, zero-mul, mul-one, mul_right_comm, not-le_of_lt, div-one, arith, eqb→eq, pow_pos, pow-add, le-ltb, lt-ltb}
use mathlib.Core.Bool.{beq, false≢true}
use lib.Ieee.{Float, nan, inf, fin, binary64, up, down, size, lt, eq, div, fits, to_bits, of_bits, nan_bits}
use lib.Ieee.Digits.{size-le}
use lib.Ieee.Fits.{kept-lt, down_pos, up_pos}
use lib.Ieee.Bits.{of_bits-to_bits, nan_bits_above}
use Rattle.root.specs.Sqrt.{sqrt_units, sqrt_of}
use Rattle.root.specs.Parts.{units_bits}
use Rattle.root.proofs.Patterns.{infinity, below_sign, sqrt_of_bits}

-- ---- the code's constants

abbrev pub plus_zero : Float
plus_zero = of_bits binary64 0

plus_zero_is : plus_zero ≡ fin false 0 (pos 0)
unfolding of_bits
plus_zero_is = refl

pub nan_is : div binary64 plus_zero plus_zero ≡ nan
unfolding of_bits div
nan_is = refl

-- ---- the tests, at the values

clash : (b : Bool) → b ≡ true → b ≡ false → ⊥
clash b p q = true≢false (sym p ∙ q)

-- above zero and below the infinity
pub record PositiveFinite (x : Float) : Type 0 where
  pub m : ℕ
  pub e : ℤ
  pub is : x ≡ fin false (suc m) e

below_zero : (e : ℤ) → ltb (0 * down e) (0 * up e * 1) ≡ false
below_zero e = grind arith

-- a value above zero is finite, or it is the infinity
above_zero : (x : Float) → lt (fin false 0 (pos 0)) x ≡ true → PositiveFinite x ⊎ (x ≡ inf false)
unfolding lt
above_zero nan p = absurd (false≢true p)
above_zero (inf true) p = absurd (false≢true p)
above_zero (inf false) p = inr refl
above_zero (fin true m e) p = absurd (false≢true p)
above_zero (fin false zero e) p = absurd (clash (ltb (0 * down e) (0 * up e * 1)) p (below_zero e))
above_zero (fin false (suc m) e) p = inl (record { m = m; e = e; is = refl })

above : (x : Float) → lt plus_zero x ≡ true → PositiveFinite x ⊎ (x ≡ inf false)
above x p = above_zero x (subst (λ (z : Float). lt z x ≡ true) plus_zero_is p)

and_true : (a b : Bool) → (a && b) ≡ true → a ≡ true
and_true true b p = refl
and_true false b p = absurd (false≢true p)

at_zero' : (x : Float) → eq x (fin false 0 (pos 0)) ≡ true → x ≡ sqrt_of x
unfolding eq sqrt_of
at_zero' nan p = absurd (false≢true p)
at_zero' (inf s) p = absurd (false≢true p)
at_zero' (fin s zero e) p = refl
at_zero' (fin s (suc m) e) p =
    let t : eqb (suc m * up e * 1) (0 * down e) ≡ true = and_true (eqb (suc m * up e * 1) (0 * down e)) (beq s false || eqb (suc m * up e * 1) 0) p in
    let q : suc m * up e * 1 ≡ 0 * down e = eqb→eq (suc m * up e * 1) (0 * down e) (subst T (sym t) tt) in
    absurd (lt_irrefl 0 (subst (λ (z : ℕ). 0 < z) (sym (mul-one (suc m * up e)) ∙ q ∙ zero-mul (down e)) (mul-pos (zero-lt-suc m) (up_pos e))))

pub at_zero : (x : Float) → eq x plus_zero ≡ true → x ≡ sqrt_of x
at_zero x p = at_zero' x (subst (λ (z : Float). eq x z ≡ true) plus_zero_is p)

zeros_equal : (s : Bool) (e : ℤ) → (eqb (0 * up e * 1) (0 * down e) && (beq s false || eqb (0 * up e * 1) 0)) ≡ true
zeros_equal s e = grind arith

at_nan' : (x : Float) → lt (fin false 0 (pos 0)) x ≡ false → eq x (fin false 0 (pos 0)) ≡ false → sqrt_of x ≡ nan
unfolding lt eq sqrt_of
at_nan' nan p q = refl
at_nan' (inf true) p q = refl
at_nan' (inf false) p q = absurd (true≢false p)
at_nan' (fin s zero e) p q = absurd (true≢false (sym (zeros_equal s e) ∙ q))
at_nan' (fin true (suc m) e) p q = refl
at_nan' (fin false (suc m) e) p q =
    absurd (clash (ltb (0 * down e) (suc m * up e * 1))
    (lt-ltb (0 * down e) (suc m * up e * 1) (subst (λ (z : ℕ). z < suc m * up e * 1) (sym (zero-mul (down e))) (mul-pos (mul-pos (zero-lt-suc m) (up_pos e)) (zero-lt-suc 0)))) p)

pub at_nan : (x : Float) → lt plus_zero x ≡ false → eq x plus_zero ≡ false → div binary64 plus_zero plus_zero ≡ sqrt_of x
at_nan x p q = nan_is ∙ sym (at_nan' x (subst (λ (z : Float). lt z x ≡ false) plus_zero_is p) (subst (λ (z : Float). eq x z ≡ false) plus_zero_is q))

-- ---- the pattern of a positive finite value

abbrev In : ℕ → Type 0
In b = (0 < b) × (b < infinity)

pub to_bits_is : (m : ℕ) (e : ℤ) → to_bits binary64 (fin false m e) ≡ 0 + (size (m * up e * 2 ^ 1074 / down e) - 53) * 2 ^ 52 + m * up e * 2 ^ 1074 / down e / 2 ^ (size (m * up e * 2 ^ 1074 / down e) - 53)
unfolding to_bits
to_bits_is m e = refl

pattern_in : (n : ℕ) → 0 < n → n < 2 ^ 2098 → In (0 + (size n - 53) * 2 ^ 52 + n / 2 ^ (size n - 53))
pattern_in n p h = go (size n - 53) (cut (size n) (size-le n 2098 h)) (kept-lt 53 n)
  where
    cut : (z : ℕ) → z ≤ 2098 → z - 53 ≤ 2045
    cut z h = omega arith

    go : (k : ℕ) → k ≤ 2045 → n / 2 ^ k < 2 ^ 53 → In (0 + k * 2 ^ 52 + n / 2 ^ k)
    go zero l u = (subst (λ (z : ℕ). 0 < 0 + 0 * 2 ^ 52 + z) (sym (div-one n)) (omega arith), omega arith)
    go (suc k) l u = (omega arith, omega arith)

units_pos : (m : ℕ) (e : ℤ) → down e ≤ 2 ^ 1074 → 0 < suc m * up e * 2 ^ 1074 / down e
units_pos m e h = (le-div_iff_mul-le (down_pos e)).1 (le_trans (le_of_eq (one-mul (down e))) (le_trans h (le_trans (le_of_eq (sym (one-mul (2 ^ 1074)))) (mul-le-mul_right (2 ^ 1074) (mul-pos (zero-lt-suc m) (up_pos e))))))

units_lt : (m : ℕ) (e : ℤ) → m * up e < 2 ^ 1024 * down e → m * up e * 2 ^ 1074 / down e < 2 ^ 2098
units_lt m e h =
    (div-lt_iff_lt-mul (down_pos e)).1
    (lt_of_lt_of_le (mul-lt-mul_of_pos_right h (pow_pos 1074)) (le_of_eq (mul_right_comm (2 ^ 1024) (down e) (2 ^ 1074) ∙ ap (λ (z : ℕ). z * down e) (sym (pow-add 2 1024 1074)))))

-- a value that the format holds has 53 digits at most, is a whole number of units, and lies below 2 ^ 1024
pub record FitsParts (m : ℕ) (e : ℤ) : Type 0 where
  pub short : m < 2 ^ 53
  pub coarse : down e ≤ 2 ^ 1074
  pub small : m * up e < 2 ^ 1024 * down e

pub fits_parts : (s : Bool) (m : ℕ) (e : ℤ) → T (fits binary64 (fin s (suc m) e)) → FitsParts (suc m) e
unfolding fits
fits_parts s m e t = grind arith

pub bits_in : (x : Float) → T (fits binary64 x) → PositiveFinite x → In (to_bits binary64 x)
bits_in x t b =
    let m = b.m in
    let e = b.e in
    let f = fits_parts false m e (subst (λ (z : Float). T (fits binary64 z)) b.is t) in
    subst In (sym (ap (to_bits binary64) b.is ∙ to_bits_is (suc m) e)) (pattern_in (suc m * up e * 2 ^ 1074 / down e) (units_pos m e f.coarse) (units_lt (suc m) e f.small))

infinity_bits : to_bits binary64 (inf false) ≡ infinity
unfolding to_bits
infinity_bits = refl

-- which of the two it is, its pattern tells
pub positive_finite : (x : Float) → lt plus_zero x ≡ true → to_bits binary64 x < infinity → PositiveFinite x
positive_finite x p h = ⊎_elim (λ w. w) (λ w. absurd (lt_irrefl infinity (subst (λ (b : ℕ). b < infinity) (ap (to_bits binary64) w ∙ infinity_bits) h))) (above x p)

pub at_infinity : (x : Float) → T (fits binary64 x) → lt plus_zero x ≡ true → infinity ≤ to_bits binary64 x → x ≡ sqrt_of x
unfolding sqrt_of
at_infinity x t p h = ⊎_elim (λ w. absurd (not-le_of_lt (bits_in x t w).1 h)) (λ w. w ∙ sym (ap sqrt_of w)) (above x p)

pub root_of_bits : (x r : Float) → T (fits binary64 x) → PositiveFinite x → r ≡ sqrt_units (units_bits (to_bits binary64 x)) → r ≡ sqrt_of x
root_of_bits x r t b h =
    let i = bits_in x t b in
    h ∙ sym (sqrt_of_bits (to_bits binary64 x) i.0 i.1) ∙ ap sqrt_of (of_bits-to_bits binary64 x t)

pub no_nan_bits : (r : ℕ) → r < infinity → T (not (nan_bits binary64 r))
no_nan_bits r h =
    subst (λ (b : Bool). T (not b)) (sym (nan_bits_above binary64 r ∙ ap (λ (z : ℕ). ltb infinity z) (mod-eq_of_lt (below_sign r h)) ∙ le-ltb infinity r (omega arith))) tt
