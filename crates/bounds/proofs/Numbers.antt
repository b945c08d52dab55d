-- Rounding, sums, products and negation keep bounds by powers of two, with another exponent; a bounded number is finite.
use Prim.Native.Nat.{ℕ, zero, suc, ◌+◌, ◌-◌, ◌*◌, ◌/◌, ◌^◌, ◌≤◌, ◌<◌}
use mathlib.Core.Bool.{Bool, true, false, ◌&&◌, ◌||◌, beq, cond, false≢true, and-eq-true_iff}
use mathlib.Core.Path.{◌≡◌, refl, sym, ap, ◌∙◌, subst}
use native.Mathlib.Nat.{le_trans, le_of_eq, le_of_lt, lt_of_le_of_lt, mul-one, mul_comm, mul_assoc, mul_left_comm, mul_right_comm, mul-mul-mul_comm, mul-le-mul, mul-le-mul_right, le_of_mul-le-mul_right, mul-pos, div-one, mod-one, div-lt_iff_lt-mul, pow-succ'}
use native.Mathlib.Numerals.{add-one}
use native.Mathlib.Omega.{arith}
use lib.Dec.{ltb, eqb, lit<, lit≤}
use lib.IntN.{pos}
use lib.Pow.{pow-add, pow_pos, pow_mono, pow-lt}
use lib.Ieee.{Float, nan, inf, fin, Format, binary64, prec, emax, low, up, down, size, round, neg, sum, add, sub, mul, div, unlike, le, of_bits}
use lib.Ieee.Digits.{size-le, back}
use lib.Ieee.Fits.{round_is, two, two-le_pos, down_pos}
use lib.Ieee.Exact.{HasValue, units_val}
use lib.Ieee.Nearest.{closest, closest_mono}
use lib.Ieee.Order.{drop, kept}
use lib.Ieee.Scale.{finite}
use borrow.Author.Tests.{ltb-true, eqb-true}
use Rattle.folds.specs.Folds.{fold_to}
use Rattle.complex.specs.Rounded.{◌⊞◌, ◌⊟◌, ◌⊠◌, fzero, fhalf, fthree, inverse}
use Rattle.bounds.specs.Magnitude.{AtMost, Magnitude, within_two}
use Rattle.bounds.specs.Claims.{MagnitudesAreKept}

-- ## Rounding: 2ᵏ is a value of the format, and rounding keeps the order

closest_le : (a b x : ℕ) → 0 < b → a ≤ x * b → closest a b ≤ x
closest_le a b x B h =
    let whole : closest x 1 ≡ x = rw (div-one, mod-one) in
    le_trans (closest_mono a b x 1 B (lit< tt) (rw mul-one h)) (le_of_eq whole)

grid_le : (p n c k : ℕ) → 0 < p → 0 < c → n ≤ 2 ^ k * c → kept p n c * 2 ^ drop p n c ≤ 2 ^ k
grid_le p n c k P C h =
    let d = drop p n c in
    let w : n / c < 2 ^ suc k = (div-lt_iff_lt-mul C).1 (lt_of_le_of_lt h (mul_lt c C)) in
    let z = size-le (n / c) (suc k) w in
    let e : 2 ^ (k - d) * 2 ^ d ≡ 2 ^ k = sym (pow-add 2 (k - d) d) ∙ ap (λ (x : ℕ). 2 ^ x) (back k d (few (size (n / c)) p k P z)) in
    let f : 2 ^ (k - d) * (c * 2 ^ d) ≡ 2 ^ k * c = mul_left_comm (2 ^ (k - d)) c (2 ^ d) ∙ ap (λ (x : ℕ). c * x) e ∙ mul_comm c (2 ^ k) in
    le_trans (mul-le-mul_right (2 ^ d) (closest_le n (c * 2 ^ d) (2 ^ (k - d)) (mul-pos C (pow_pos d)) (le_trans h (le_of_eq (sym f))))) (le_of_eq e)
  where
    few : (z p k : ℕ) → 0 < p → z ≤ suc k → z - p ≤ k
    few z p k P h = omega arith

    mul_lt : (c : ℕ) → 0 < c → 2 ^ k * c < 2 ^ suc k * c
    mul_lt c C = let q = mul-pos (pow_pos k) C in rw (pow-succ', mul_assoc) (omega arith)

at_most_value : (l k : ℕ) (s : Bool) (x : Float) (g : ℕ) → HasValue x s g (2 ^ l) → g ≤ 2 ^ (k + l) → AtMost k x
at_most_value l k s nan g v h = v
at_most_value l k s (inf t) g v h = v
at_most_value l k s (fin t m e) g v h =
    le_of_mul-le-mul_right
    (le_trans (le_of_eq v.1) (le_trans (mul-le-mul_right (down e) h) (le_of_eq (ap (λ (x : ℕ). x * down e) (pow-add 2 k l) ∙ mul_right_comm (2 ^ k) (2 ^ l) (down e)))))
    (pow_pos l)

at_most_round : (f : Format) (s : Bool) (a c k : ℕ) → 0 < c → k ≤ emax f → a ≤ 2 ^ k * c → AtMost k (round f s a c)
at_most_round f s a c k C K h =
    let l = low f in
    let n = a * 2 ^ l in
    let q = kept (prec f) n c in
    let d = drop (prec f) n c in
    let m : n ≤ 2 ^ (k + l) * c = le_trans (mul-le-mul_right (2 ^ l) h) (le_of_eq (mul_right_comm (2 ^ k) c (2 ^ l) ∙ ap (λ (x : ℕ). x * c) (sym (pow-add 2 k l)))) in
    let g = grid_le (prec f) n c (k + l) (two-le_pos (prec f) (two f)) C m in
    let v = units_val f s q d (lt_of_le_of_lt g (pow-lt (under k l (emax f) K))) in
    at_most_value l k s (round f s a c) (q * 2 ^ d) (subst (λ (x : Float). HasValue x s (q * 2 ^ d) (2 ^ l)) (sym (round_is f s a c)) v) g
  where
    under : (k l e : ℕ) → k ≤ e → k + l < l + suc e
    under k l e h = omega arith

-- ## The operations, on bounds that the format reaches

at_most_mono : (j k : ℕ) (x : Float) → j ≤ k → AtMost j x → AtMost k x
at_most_mono j k nan h b = b
at_most_mono j k (inf s) h b = b
at_most_mono j k (fin s m e) h b = le_trans b (mul-le-mul_right (down e) (pow_mono h))

at_most_neg : (k : ℕ) (x : Float) → AtMost k x → AtMost k (neg x)
unfolding neg
at_most_neg k nan b = b
at_most_neg k (inf s) b = b
at_most_neg k (fin s m e) b = b

at_most_mul : (f : Format) (j k : ℕ) (x y : Float) → j + k ≤ emax f → AtMost j x → AtMost k y → AtMost (j + k) (mul f x y)
unfolding mul
at_most_mul f j k nan y K a b = absurd a
at_most_mul f j k (inf s) y K a b = absurd a
at_most_mul f j k (fin s m e) nan K a b = absurd b
at_most_mul f j k (fin s m e) (inf t) K a b = absurd b
at_most_mul f j k (fin s m e) (fin t n d) K a b =
    at_most_round f (unlike s t) (m * up e * (n * up d)) (down e * down d) (j + k) (mul-pos (down_pos e) (down_pos d)) K
    (le_trans (mul-le-mul a b) (le_of_eq (mul-mul-mul_comm (2 ^ j) (down e) (2 ^ k) (down d) ∙ ap (λ (x : ℕ). x * (down e * down d)) (sym (pow-add 2 j k)))))

-- whatever the signs, the exact sum is at most a + b over c
at_most_sum : (f : Format) (k : ℕ) (s : Bool) (a : ℕ) (t : Bool) (b c : ℕ) → 0 < c → suc k ≤ emax f → a ≤ 2 ^ k * c → b ≤ 2 ^ k * c → AtMost (suc k) (sum f s a t b c)
unfolding sum
at_most_sum f k s a t b c C K p q = go (beq s t) (ltb a b)
  where
    part : (r : Bool) (x : ℕ) → x ≤ a + b → AtMost (suc k) (round f r x c)
    part r x h = at_most_round f r x c (suc k) C K (rw (pow-succ', mul_assoc) (omega arith))

    go : (u v : Bool) → AtMost (suc k) (cond u (round f s (a + b) c) (cond v (round f t (b - a) c) (round f (s && ltb b a) (a - b) c)))
    go true v = part s (a + b) (omega arith)
    go false true = part t (b - a) (omega arith)
    go false false = part (s && ltb b a) (a - b) (omega arith)

at_most_add : (f : Format) (k : ℕ) (x y : Float) → suc k ≤ emax f → AtMost k x → AtMost k y → AtMost (suc k) (add f x y)
unfolding add
at_most_add f k nan y K a b = absurd a
at_most_add f k (inf s) y K a b = absurd a
at_most_add f k (fin s m e) nan K a b = absurd b
at_most_add f k (fin s m e) (inf t) K a b = absurd b
at_most_add f k (fin s m e) (fin t n d) K a b =
    at_most_sum f k s (m * up e * down d) t (n * up d * down e) (down e * down d) (mul-pos (down_pos e) (down_pos d)) K
    (le_trans (mul-le-mul_right (down d) a) (le_of_eq (mul_assoc (2 ^ k) (down e) (down d))))
    (le_trans (mul-le-mul_right (down e) b) (le_of_eq (mul_assoc (2 ^ k) (down d) (down e) ∙ ap (λ (x : ℕ). 2 ^ k * x) (mul_comm (down d) (down e)))))

-- ## The laws

module _ {x : Float} where
  pub magnitude_mono : {j k : ℕ} → j ≤ k → Magnitude j x → Magnitude k x
  magnitude_mono {j} {k} h a = record { bound = λ g. at_most_mono j k x h (a.bound (omega arith)) }

  pub magnitude_neg : {k : ℕ} → Magnitude k x → Magnitude k (neg x)
  magnitude_neg {k} a = record { bound = λ g. at_most_neg k x (a.bound g) }

  module _ {y : Float} where
    pub magnitude_mul : {j k : ℕ} → Magnitude j x → Magnitude k y → Magnitude (j + k) (x ⊠ y)
    magnitude_mul {j} {k} a b = record { bound = λ g. at_most_mul binary64 j k x y g (a.bound (omega arith)) (b.bound (omega arith)) }

    pub magnitude_add : {k : ℕ} → Magnitude k x → Magnitude k y → Magnitude (k + 1) (x ⊞ y)
    magnitude_add {k} a b = rw (add-one k) (record { bound = λ g. at_most_add binary64 k x y g (a.bound (omega arith)) (b.bound (omega arith)) })

pub magnitude_sub : {x y : Float} {k : ℕ} → Magnitude k x → Magnitude k y → Magnitude (k + 1) (x ⊟ y)
unfolding sub
magnitude_sub a b = magnitude_add a (magnitude_neg b)

pub magnitude_finite : {x : Float} {k : ℕ} → k ≤ 1023 → Magnitude k x → finite x ≡ true
magnitude_finite {x} {k} h a = go x (a.bound h)
  where
    go : (x : Float) → AtMost k x → finite x ≡ true
    go nan b = absurd b
    go (inf s) b = absurd b
    go (fin s m e) b = refl

-- a sum of n terms, whatever they are
module _ {A : Type 0} (Bound : ℕ → A → Type 0) (op : A → A → A) (mono : (x : A) (j k : ℕ) → j ≤ k → Bound j x → Bound k x) (grows : (x y : A) (k : ℕ) → Bound k x → Bound k y → Bound (k + 1) (op x y)) where
  pub sum_grows : {z : A} {f : ℕ → A} {k : ℕ} → Bound k z → (n : ℕ) → ((i : ℕ) → i < n → Bound k (f i)) → Bound (k + n) (fold_to op z f n)
  unfolding fold_to
  sum_grows {z} {f} {k} a zero h = mono z k (k + 0) (omega arith) a
  sum_grows {z} {f} {k} a (suc n) h =
      mono _ (k + n + 1) (k + suc n) (omega arith)
      (grows _ (f n) (k + n) (sum_grows a n (λ i g. h i (omega arith))) (mono (f n) k (k + n) (omega arith) (h n (omega arith))))

-- ## The numbers that the formulas name

pub magnitude_zero : {k : ℕ} → Magnitude k fzero
unfolding of_bits
magnitude_zero = record { bound = λ g. omega arith }

pub magnitude_half : Magnitude 0 fhalf
unfolding of_bits
magnitude_half = record { bound = λ g. lit≤ tt }

pub magnitude_third : Magnitude 0 (inverse fthree)
unfolding of_bits div
magnitude_third = record { bound = λ g. lit≤ tt }

-- ## The test: from −2 to 2

or_le : (a b : ℕ) (v u : Bool) → (v ≡ true → a ≡ b) → ltb a b || (v && u) ≡ true → a ≤ b
or_le a b v u e = go (ltb a b) v refl e
  where
    go : (x y : Bool) → ltb a b ≡ x → (y ≡ true → a ≡ b) → x || (y && u) ≡ true → a ≤ b
    go true y p q h = le_of_lt (ltb-true a b p)
    go false true p q h = le_of_eq (q refl)
    go false false p q h = absurd (false≢true h)

at_most_two : (x : Float) → le (fin true 1 (pos 1)) x ≡ true → le x (fin false 1 (pos 1)) ≡ true → AtMost 1 x
unfolding le
at_most_two nan a b = absurd (false≢true a)
at_most_two (inf true) a b = absurd (false≢true a)
at_most_two (inf false) a b = absurd (false≢true b)
at_most_two (fin false m e) a b = let r = or_le (m * up e * 1) (2 * down e) (eqb (m * up e * 1) (2 * down e)) _ (eqb-true _ _) b in rw mul-one at r
at_most_two (fin true m e) a b = let r = or_le (m * up e * 1) (2 * down e) (eqb (2 * down e) (m * up e * 1)) _ (λ q. sym (eqb-true (2 * down e) (m * up e * 1) q)) a in rw mul-one at r

pub within_two_lem : {x : Float} → within_two x ≡ true → Magnitude 1 x
unfolding within_two neg of_bits
within_two_lem {x} h = let t = (and-eq-true_iff _ _).0 h in record { bound = λ g. at_most_two x t.0 t.1 }

pub magnitudes_are_kept : MagnitudesAreKept
magnitudes_are_kept = record {
  product = λ j k x y. magnitude_mul;
  sum = λ k x y. magnitude_add;
  difference = λ k x y. magnitude_sub;
  negation = λ k x. magnitude_neg;
  tested = λ x. within_two_lem;
  bounded = λ k x. magnitude_finite;
}
