-- `sqrt_of x` is the value of the format nearest to √x (`sqrt_of_nearest`), for each positive finite x that the format holds, and it is the only one (`nearest_unique`). Assumes nothing.
use Rattle.std.proofs.Common.{◌≡◌, ℕ, zero, suc, ◌+◌, ◌-◌, ◌*◌, ◌/◌, ◌%◌, ◌^◌, ◌<◌, ◌≤◌, true, false, T, ℤ, pos, negsuc, sym, refl, ap, ◌∙◌, subst, true≢false, le_trans, le_of_eq, lt_of_lt_of_le, lt_of_le_of_lt, add-zero, le_of_lt, lt_irrefl, mul-le-mul_right, mul_assoc, mul_comm, add_comm, le_antisymm, lt_of_mul-lt-mul_right, mul-lt-mul_of_pos_right, mul-pos, lt_of_not-le, zero-mul, mul-one, not-le_of_lt, mul-div_cancel, arith, pow_pos, pow_mono, pow-add}
use native.Mathlib.Nat.{eq_of_mul-eq-mul_right}
use native.Mathlib.Decide.{dec_le}
use lib.Ieee.{Float, nan, inf, fin, binary64, up, down, size, odd, fits, to_bits, of_bits}
use lib.Ieee.Digits.{back}
use lib.Ieee.Fits.{down_pos}
use lib.Ieee.Exact.{odd_sign}
use lib.Ieee.Bits.{of_bits-to_bits, of_bits-fits}
use Rattle.root.specs.Root.{root, IsNearestRoot}
use Rattle.root.specs.Sqrt.{sqrt_units, sqrt_of}
use Rattle.root.specs.Parts.{units_bits}
use Rattle.root.specs.Nearest.{Units, NearestRoot, SquareRoot, OnlySquareRoot}
use Rattle.root.proofs.WholeRoot.{root_is}
use Rattle.root.proofs.Arith.{le_of_not_lt, squares, sq_mono, sq_lt, pow_le_back}
use Rattle.root.proofs.PatternParts.{parts_of}
use Rattle.root.proofs.Scaling.{sqrt_units_at, scaled_in, scaled_same, nearest_is}
use Rattle.root.proofs.Assemble.{bits_of}
use Rattle.root.proofs.Patterns.{sqrt_of_bits, bits_units}
use Rattle.root.proofs.Cases.{PositiveFinite, fits_parts, bits_in, to_bits_is}

-- ---- a value of the format is c * 2 ^ j units, for a c of 53 digits at most

abbrev Few : ℕ → Type 0
Few a = (c : ℕ) × (j : ℕ) × (c < 2 ^ 53) × (a ≡ c * 2 ^ j)

place : (m a : ℕ) (e : ℤ) → down e ≤ 2 ^ 1074 → m * up e * 2 ^ 1074 ≡ a * down e → (j : ℕ) × (a ≡ m * 2 ^ j)
place m a (pos k) h p = (k + 1074, sym (mul-one a) ∙ sym p ∙ mul_assoc m (2 ^ k) (2 ^ 1074) ∙ ap (λ (x : ℕ). m * x) (sym (pow-add 2 k 1074)))
place m a (negsuc k) h p =
    let l : suc k ≤ 1074 = pow_le_back (suc k) 1074 h in (
      1074 - suc k,
      eq_of_mul-eq-mul_right (2 ^ suc k) (pow_pos (suc k)) a (m * 2 ^ (1074 - suc k))
          (sym p
          ∙ ap (λ (x : ℕ). x * 2 ^ 1074) (mul-one m)
          ∙ ap (λ (x : ℕ). m * x) (ap (λ (x : ℕ). 2 ^ x) (sym (back 1074 (suc k) l)) ∙ pow-add 2 (1074 - suc k) (suc k))
          ∙ sym (mul_assoc m (2 ^ (1074 - suc k)) (2 ^ suc k))),
    )

few : (y : Float) (a : ℕ) → T (fits binary64 y) → Units y false a → Few a
few nan a t h = absurd h
few (inf s) a t h = absurd h
few (fin s zero e) a t h = (0, 0, omega arith, eq_of_mul-eq-mul_right (down e) (down_pos e) a 0 (sym h.1 ∙ ap (λ (x : ℕ). x * 2 ^ 1074) (zero-mul (up e)) ∙ zero-mul (2 ^ 1074) ∙ sym (zero-mul (down e))))
few (fin s (suc m) e) a t h =
    let f = fits_parts s m e t in
    let p = place (suc m) a e f.coarse h.1 in
    (suc m, p.0, f.short, p.1)

-- ---- the values of the format next to q * 2 ^ k units, for a q of 53 digits

finer : (c j k q : ℕ) → c < 2 ^ 53 → 2 ^ 52 ≤ q → j < k → c * 2 ^ j < q * 2 ^ k
finer c j k q C Q l =
    lt_of_lt_of_le (mul-lt-mul_of_pos_right C (pow_pos j))
    (le_trans (le_of_eq (sym (pow-add 2 53 j))) (le_trans (pow_mono (room j k l)) (le_trans (le_of_eq (pow-add 2 52 k)) (mul-le-mul_right (2 ^ k) Q))))
  where
    room : (j k : ℕ) → j < k → 53 + j ≤ 52 + k
    room j k l = omega arith

coarser : (c j k : ℕ) → k ≤ j → c * 2 ^ j ≡ c * 2 ^ (j - k) * 2 ^ k
coarser c j k l = ap (λ (x : ℕ). c * x) (ap (λ (x : ℕ). 2 ^ x) (sym (back j k l)) ∙ pow-add 2 (j - k) k) ∙ sym (mul_assoc c (2 ^ (j - k)) (2 ^ k))

next_above : (c j k q : ℕ) → c < 2 ^ 53 → 2 ^ 52 ≤ q → q * 2 ^ k < c * 2 ^ j → (q + 1) * 2 ^ k ≤ c * 2 ^ j
next_above c j k q C Q h = go (dec_le k j)
  where
    plus : {x y : ℕ} → x < y → x + 1 ≤ y
    plus l = omega arith

    go : Dec (k ≤ j) → (q + 1) * 2 ^ k ≤ c * 2 ^ j
    go (yes l) =
        let e = coarser c j k l in
        le_trans (mul-le-mul_right (2 ^ k) (plus (lt_of_mul-lt-mul_right (2 ^ k) (subst (λ (x : ℕ). q * 2 ^ k < x) e h)))) (le_of_eq (sym e))
    go (no f) = absurd (not-le_of_lt (finer c j k q C Q (lt_of_not-le f)) (le_of_lt h))

next_below : (c j k p : ℕ) → c < 2 ^ 53 → 2 ^ 52 ≤ p → c * 2 ^ j < (p + 1) * 2 ^ k → c * 2 ^ j ≤ p * 2 ^ k
next_below c j k p C P h = go (dec_le k j)
  where
    less : {x y : ℕ} → x < y + 1 → x ≤ y
    less l = omega arith

    go : Dec (k ≤ j) → c * 2 ^ j ≤ p * 2 ^ k
    go (yes l) =
        let e = coarser c j k l in
        le_trans (le_of_eq e) (mul-le-mul_right (2 ^ k) (less (lt_of_mul-lt-mul_right (2 ^ k) (subst (λ (x : ℕ). x < (p + 1) * 2 ^ k) e h))))
    go (no f) = le_of_lt (finer c j k p C P (lt_of_not-le f))

-- ---- the squares

-- q * P and the next multiple of P, added
twice_middle : (q P : ℕ) → (2 * q + 1) * P ≡ q * P + (q + 1) * P
twice_middle q P = omega arith

-- with P for 2 ^ k
over : (B q P a : ℕ) → 0 < P → IsNearestRoot B q → (q + 1) * P ≤ a → 4 * (B * (P * P)) < (q * P + a) * (q * P + a)
over B q P a Z n h =
    let s : (2 * q + 1) * P ≤ q * P + a = let e = twice_middle q P in omega arith in
    lt_of_lt_of_le
    (lt_of_le_of_lt (le_of_eq (sym (mul_assoc 4 B (P * P))))
    (mul-lt-mul_of_pos_right {m = 4 * B} {n = (2 * q + 1) * (2 * q + 1)} (wide q n) (mul-pos Z Z)))
    (le_trans (le_of_eq (sym (squares (2 * q + 1) P))) (sq_mono s))
  where
    wide : (q : ℕ) → IsNearestRoot B q → 4 * B < (2 * q + 1) * (2 * q + 1)
    wide q n = grind arith

under : (B p P a : ℕ) → 0 < P → IsNearestRoot B (p + 1) → a ≤ p * P → ((p + 1) * P + a) * ((p + 1) * P + a) < 4 * (B * (P * P))
under B p P a Z n h =
    let s : (p + 1) * P + a ≤ (2 * p + 1) * P = let e = twice_middle p P in omega arith in
    lt_of_le_of_lt (le_trans (sq_mono s) (le_of_eq (squares (2 * p + 1) P)))
    (lt_of_lt_of_le (mul-lt-mul_of_pos_right {m = (2 * p + 1) * (2 * p + 1)} {n = 4 * B} (narrow p n) (mul-pos Z Z)) (le_of_eq (mul_assoc 4 B (P * P))))
  where
    narrow : (p : ℕ) → IsNearestRoot B (p + 1) → (2 * p + 1) * (2 * p + 1) < 4 * B
    narrow p n = grind arith

-- at a power of two the values below are closer together, but there √x is no less than q
under_power : (B q P a : ℕ) → 0 < P → q * q ≤ B → a < q * P → (q * P + a) * (q * P + a) < 4 * (B * (P * P))
under_power B q P a Z n h =
    lt_of_lt_of_le (sq_lt (more (q * P) (2 * q * P) a (mul_assoc 2 q P) h)) (le_trans (le_of_eq (squares (2 * q) P)) (le_trans (mul-le-mul_right (P * P) (four q n)) (le_of_eq (mul_assoc 4 B (P * P)))))
  where
    more : (v w a : ℕ) → w ≡ 2 * v → a < v → v + a < w
    more v w a e l = omega arith

    four : (q : ℕ) → q * q ≤ B → 2 * q * (2 * q) ≤ 4 * B
    four q l = omega arith

-- ---- the root of a value of n units, where n * 2 ^ 1074 is B * 4 ^ k

closest : (n B q k : ℕ) → n * 2 ^ 1074 ≡ B * (2 ^ k * 2 ^ k) → IsNearestRoot B q → 2 ^ 104 ≤ B → 2 ^ 52 ≤ q → (a : ℕ) → Few a
    → (q * 2 ^ k < a → 4 * (n * 2 ^ 1074) < (q * 2 ^ k + a) * (q * 2 ^ k + a)) × (a < q * 2 ^ k → (q * 2 ^ k + a) * (q * 2 ^ k + a) < 4 * (n * 2 ^ 1074))
closest n B q k e near big Q a f =
    let c = f.0 in
    let j = f.1 in (
      λ l. subst (λ (x : ℕ). 4 * x < (q * 2 ^ k + a) * (q * 2 ^ k + a)) (sym e)
          (over B q (2 ^ k) a (pow_pos k) near (le_trans (next_above c j k q f.2 Q (subst (λ (x : ℕ). q * 2 ^ k < x) f.3 l)) (le_of_eq (sym f.3)))),
      λ l. subst (λ (x : ℕ). (q * 2 ^ k + a) * (q * 2 ^ k + a) < 4 * x) (sym e) (low (dec_le q (2 ^ 52)) l),
    )
  where
    low : Dec (q ≤ 2 ^ 52) → a < q * 2 ^ k → (q * 2 ^ k + a) * (q * 2 ^ k + a) < 4 * (B * (2 ^ k * 2 ^ k))
    low (yes h) l = under_power B q (2 ^ k) a (pow_pos k) (le_trans (le_of_eq (ap (λ (x : ℕ). x * x) (le_antisymm h Q))) big) l
    low (no g) l =
        let h : 2 ^ 52 < q = lt_of_not-le g in
        let s : q - 1 + 1 ≡ q = omega arith in
        subst (λ (x : ℕ). (x * 2 ^ k + a) * (x * 2 ^ k + a) < 4 * (B * (2 ^ k * 2 ^ k))) s
        (under B (q - 1) (2 ^ k) a (pow_pos k) (subst (λ (x : ℕ). IsNearestRoot B x) (sym s) near)
        (le_trans (le_of_eq f.3) (next_below f.0 f.1 k (q - 1) f.2 (omega arith) (subst (λ (x : ℕ). f.0 * 2 ^ f.1 < x * 2 ^ k) (sym s) (subst (λ (x : ℕ). x < q * 2 ^ k) f.3 l)))))

pub sqrt_of_nearest : (x : Float) → T (fits binary64 x) → PositiveFinite x → NearestRoot x (sqrt_of x)
sqrt_of_nearest x t w =
    let b = to_bits binary64 x in
    let same : of_bits binary64 b ≡ x = of_bits-to_bits binary64 x t in
    let i = bits_in x t w in
    let n = units_bits b in
    let parts = parts_of b i.0 i.1 in
    let m = parts.0 in
    let g = parts.1 in
    let p = parts.2 in
    let a = m * 2 ^ (g % 2) in
    let h = g / 2 - 27 in
    let s = scaled_in m g p.low p.high in
    let Q = root (a * 2 ^ 54) in
    let q = (Q + 1) / 2 in
    let near = nearest_is a Q s.0 s.1 (root_is (a * 2 ^ 54)) in
    let total : n * 2 ^ 1074 ≡ a * 2 ^ 54 * (2 ^ h * 2 ^ h) = p.same ∙ scaled_same m g p.least in
    let is : sqrt_units n ≡ odd 53 false q (h + 1) 1074 = sqrt_units_at n a h q s.0 (below_top a s.1) total (above_zero q near.1) near.0 in
    let close = closest n (a * 2 ^ 52) q (h + 1) (total ∙ halves a h) near.0 (enough a s.0) near.1 in
    let root_is : sqrt_of x ≡ sqrt_units n = ap sqrt_of (sym same) ∙ sqrt_of_bits b i.0 i.1 in
    record {
      n = n;
      v = q * 2 ^ (h + 1);
      x_is = subst (λ (z : Float). Units z false n) same (bits_units b i.1);
      r_is = subst (λ (z : Float). Units z false (q * 2 ^ (h + 1))) (sym (root_is ∙ is)) (odd_sign 53 false q (h + 1) 1074);
      held = subst (λ (z : Float). T (fits binary64 z)) (bits_of b m g a q p refl s.0 s.1 near.0 near.1 near.2 ∙ sym root_is) (of_bits-fits binary64 ((g / 2 - 26) * 2 ^ 52 + q));
      above = λ y c f u. (close c (few y c f u)).0;
      below = λ y c f u. (close c (few y c f u)).1;
      negative = λ y c f u. lt_of_le_of_lt (sq_mono (less (q * 2 ^ (h + 1)) c)) (subst (λ (z : ℕ). z * z < 4 * (n * 2 ^ 1074)) (add-zero (q * 2 ^ (h + 1))) ((close 0 no_units).1 (mul-pos (above_zero q near.1) (pow_pos (h + 1)))));
    }
  where
    less : (x y : ℕ) → x - y ≤ x
    less x y = omega arith

    no_units : Few 0
    no_units = (0, 0, omega arith, refl)

    below_top : (a : ℕ) → a < 2 ^ 54 - 1 → a < 2 ^ 54
    below_top a h = omega arith

    above_zero : (q : ℕ) → 2 ^ 52 ≤ q → 0 < q
    above_zero q h = omega arith

    enough : (a : ℕ) → 2 ^ 52 ≤ a → 2 ^ 104 ≤ a * 2 ^ 52
    enough a h = omega arith

    halves : (a h : ℕ) → a * 2 ^ 54 * (2 ^ h * 2 ^ h) ≡ a * 2 ^ 52 * (2 ^ (h + 1) * 2 ^ (h + 1))
    halves a h = let e : 2 ^ (h + 1) ≡ 2 * 2 ^ h = pow-add 2 h 1 ∙ mul_comm (2 ^ h) 2 in
        ap (λ (x : ℕ). x * (2 ^ h * 2 ^ h)) (four a) ∙ mul_assoc (a * 2 ^ 52) 4 (2 ^ h * 2 ^ h) ∙ ap (λ (x : ℕ). a * 2 ^ 52 * x) (sym (squares 2 (2 ^ h)) ∙ ap (λ (x : ℕ). x * x) (sym e))
      where
        four : (a : ℕ) → a * 2 ^ 54 ≡ a * 2 ^ 52 * 4
        four a = omega arith

-- ---- there is one such value

-- two values of the format with the same number of units are the same value, since they have the same pattern
to_bits_units : (r : Float) (v : ℕ) → Units r false v → to_bits binary64 r ≡ 0 + (size v - 53) * 2 ^ 52 + v / 2 ^ (size v - 53)
to_bits_units nan v h = absurd h
to_bits_units (inf s) v h = absurd h
to_bits_units (fin true m e) v h = absurd (true≢false h.0)
to_bits_units (fin false m e) v h =
    to_bits_is m e ∙ ap (λ (x : ℕ). 0 + (size x - 53) * 2 ^ 52 + x / 2 ^ (size x - 53)) (ap (λ (x : ℕ). x / down e) h.1 ∙ mul-div_cancel v (down_pos e))

same_value : (r s : Float) (v : ℕ) → T (fits binary64 r) → T (fits binary64 s) → Units r false v → Units s false v → r ≡ s
same_value r s v f g h k = sym (of_bits-to_bits binary64 r f) ∙ ap (of_bits binary64) (to_bits_units r v h ∙ sym (to_bits_units s v k)) ∙ of_bits-to_bits binary64 s g

same_units : (x : Float) (n k : ℕ) → Units x false n → Units x false k → n ≡ k
same_units nan n k h g = absurd h
same_units (inf s) n k h g = absurd h
same_units (fin s m e) n k h g = eq_of_mul-eq-mul_right (down e) (down_pos e) n k (sym h.1 ∙ g.1)

pub nearest_unique : (x r s : Float) → NearestRoot x r → NearestRoot x s → r ≡ s
nearest_unique x r s p q = same_value r s p.v p.held q.held p.r_is (subst (λ (z : ℕ). Units s false z) (sym level) q.r_is)
  where
    N : p.n ≡ q.n
    N = same_units x p.n q.n p.x_is q.x_is

    no : (a b n k : ℕ) → n ≡ k → 4 * (n * 2 ^ 1074) < (a + b) * (a + b) → (b + a) * (b + a) < 4 * (k * 2 ^ 1074) → ⊥
    no a b n k e g h = lt_irrefl ((a + b) * (a + b)) (lt_trans' (subst (λ (z : ℕ). z * z < 4 * (n * 2 ^ 1074)) (add_comm b a) (subst (λ (z : ℕ). (b + a) * (b + a) < 4 * (z * 2 ^ 1074)) (sym e) h)) g)
      where
        lt_trans' : {x y z : ℕ} → x < y → y < z → x < z
        lt_trans' g h = omega arith

    level : p.v ≡ q.v
    level = le_antisymm (le_of_not_lt (λ (l : q.v < p.v). no q.v p.v q.n p.n (sym N) (q.above r p.v p.held p.r_is l) (p.below s q.v q.held q.r_is l)))
        (le_of_not_lt (λ (l : p.v < q.v). no p.v q.v p.n q.n N (p.above s q.v q.held q.r_is l) (q.below r p.v p.held p.r_is l)))

-- ---- the claims

pub sqrt_of_is_square_root : SquareRoot sqrt_of
unfolding sqrt_of
sqrt_of_is_square_root =
    record {
      nearest = λ m e t. sqrt_of_nearest (fin false (suc m) e) t (record { m = m; e = e; is = refl });
      zeros = λ s e. refl;
      infinity = refl;
      below_zero = λ m e. refl;
      below_infinity = refl;
      not_a_number = refl;
    }

pub square_root_unique : OnlySquareRoot sqrt_of
unfolding sqrt_of
square_root_unique f h nan t = h.not_a_number
square_root_unique f h (inf true) t = h.below_infinity
square_root_unique f h (inf false) t = h.infinity
square_root_unique f h (fin s zero e) t = h.zeros s e
square_root_unique f h (fin true (suc m) e) t = h.below_zero m e
square_root_unique f h (fin false (suc m) e) t =
    let x = fin false (suc m) e in
    nearest_unique x (f x) (sqrt_of x) (h.nearest m e t) (sqrt_of_is_square_root.nearest m e t)
