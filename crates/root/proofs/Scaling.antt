-- `sqrt_units` by the number that the code takes the root of: where n * 2 ^ 1074 is a * 2 ^ 54 * 4 ^ h, with an a of 53 or 54 digits, and q is the whole number nearest to the root of a * 2 ^ 52,
-- the root is q * 2 ^ (h + 1) units. Assumes nothing.
use Rattle.std.proofs.Common.{◌≡◌, ℕ, zero, suc, ◌+◌, ◌-◌, ◌*◌, ◌/◌, ◌%◌, ◌^◌, ◌<◌, ◌≤◌, false, sym, refl, ap, ◌∙◌, subst, le_trans, le_of_eq, lt_of_lt_of_le, lt_of_le_of_lt, mul_assoc, div-lt_iff_lt-mul, le_antisymm, lt_of_mul-lt-mul_right, mul-pos, le-div_iff_mul-le, div-mul-le_self, le_of_mul-le-mul_right, arith, pow_pos, pow-add}
use native.Mathlib.Nat.{lt-div-mul-add}
use lib.Ieee.{size, odd}
use lib.Ieee.Digits.{size-lt, size-le}
use Rattle.root.specs.Root.{root, IsRoot, IsNearestRoot}
use Rattle.root.specs.Sqrt.{sqrt_units}
use Rattle.root.proofs.WholeRoot.{root_is}
use Rattle.root.proofs.Arith.{squares, sq_mono, sq_lt_back, pow_lt_back}

-- ---- a root with its last digits cut off

-- the root of n * p * p, divided by p, is the root of n
pub root_cut : (n p R : ℕ) → 0 < p → IsRoot (n * (p * p)) R → IsRoot n (R / p)
root_cut n p R P h =
    let Q = R / p in (
      le_of_mul-le-mul_right (le_trans (le_of_eq (sym (squares Q p))) (le_trans (sq_mono (div-mul-le_self R p)) h.0)) (mul-pos P P),
      lt_of_mul-lt-mul_right (p * p) (lt_of_lt_of_le h.1 (le_trans (sq_mono (next Q)) (le_of_eq (squares (Q + 1) p)))),
    )
  where
    grown : (q m : ℕ) → (q + 1) * m ≡ q * m + m
    grown q m = omega arith

    up : (a b c : ℕ) → c ≡ a + b → R < a + b → R + 1 ≤ c
    up a b c e l = omega arith

    next : (Q : ℕ) → R + 1 ≤ (R / p + 1) * p
    next Q = up (R / p * p) p ((R / p + 1) * p) (grown (R / p) p) (lt-div-mul-add P)

-- ---- how many digits the root has

size_exact : (a n : ℕ) → 2 ^ a ≤ n → n < 2 ^ suc a → size n ≡ suc a
size_exact a n lo hi = le_antisymm (size-le n (suc a) hi) (pow_lt_back a (size n) (lt_of_le_of_lt lo (size-lt n)))

-- from the 54 leading digits
pub size_root : (h R : ℕ) → 2 ^ 53 ≤ R / 2 ^ h → R / 2 ^ h < 2 ^ 54 → size R ≡ suc (53 + h)
size_root h R lo hi =
    size_exact (53 + h) R
    (le_trans (le_of_eq (pow-add 2 53 h)) ((le-div_iff_mul-le (pow_pos h)).0 lo))
    (lt_of_lt_of_le ((div-lt_iff_lt-mul (pow_pos h)).0 hi) (le_of_eq (sym (pow-add 2 54 h) ∙ ap (λ (x : ℕ). 2 ^ x) (one h))))
  where
    one : (h : ℕ) → 54 + h ≡ suc (53 + h)
    one h = omega arith

-- ---- the nearest whole number, from the root of four times as much

pub halved : (b Q q : ℕ) → 0 < q → IsRoot (4 * b) Q → IsNearestRoot b q → (Q + 1) / 2 ≡ q
halved b Q zero P r n = absurd (omega arith)
halved b Q (suc p) P r n =
    let e3 : suc p * suc p ≡ (p + 1) * (p + 1) = ap (λ (x : ℕ). x * x) (plus p) in
    let lo : 2 * p + 1 < Q + 1 = sq_lt_back (2 * p + 1) (Q + 1) (omega arith) in
    let hi : Q < 2 * p + 1 + 2 = sq_lt_back Q (2 * p + 1 + 2) (omega arith) in
    omega arith
  where
    plus : (p : ℕ) → suc p ≡ p + 1
    plus p = omega arith

-- ---- the bounds of the root of a number of 107 or 108 digits

pub root_bounds : (a Q : ℕ) → 2 ^ 52 ≤ a → a < 2 ^ 54 → IsRoot (a * 2 ^ 54) Q → (2 ^ 53 ≤ Q) × (Q < 2 ^ 54)
root_bounds a Q lo hi h = grind arith

-- ---- the law

sqrt_units_is : (n : ℕ) → sqrt_units n ≡ odd 53 false ((root (n * 2 ^ 1074) / 2 ^ (size (root (n * 2 ^ 1074)) - 54) + 1) / 2) (size (root (n * 2 ^ 1074)) - 53) 1074
unfolding sqrt_units
sqrt_units_is n = refl

pub sqrt_units_at : (n a h q : ℕ) → 2 ^ 52 ≤ a → a < 2 ^ 54 → n * 2 ^ 1074 ≡ a * 2 ^ 54 * (2 ^ h * 2 ^ h) → 0 < q → IsNearestRoot (a * 2 ^ 52) q → sqrt_units n ≡ odd 53 false q (h + 1) 1074
sqrt_units_at n a h q lo hi e P near =
    let R = root (n * 2 ^ 1074) in
    let is : IsRoot (a * 2 ^ 54) (R / 2 ^ h) = root_cut (a * 2 ^ 54) (2 ^ h) R (pow_pos h) (subst (λ (x : ℕ). IsRoot x R) e (root_is (n * 2 ^ 1074))) in
    let b = root_bounds a (R / 2 ^ h) lo hi is in
    let z : size R ≡ suc (53 + h) = size_root h R b.0 b.1 in
    let k1 : size R - 54 ≡ h = minus54 (size R) h z in
    let k2 : size R - 53 ≡ h + 1 = minus53 (size R) h z in
    sqrt_units_is n
    ∙ ap (λ (k : ℕ). odd 53 false ((R / 2 ^ k + 1) / 2) (size R - 53) 1074) k1
    ∙ ap (λ (k : ℕ). odd 53 false ((R / 2 ^ h + 1) / 2) k 1074) k2
    ∙ ap (λ (x : ℕ). odd 53 false x (h + 1) 1074) (halved (a * 2 ^ 52) (R / 2 ^ h) q P (omega arith, omega arith) near)
  where
    minus54 : (z h : ℕ) → z ≡ suc (53 + h) → z - 54 ≡ h
    minus54 z h e = omega arith

    minus53 : (z h : ℕ) → z ≡ suc (53 + h) → z - 53 ≡ h + 1
    minus53 z h e = omega arith

-- ---- the nearest whole number is half of the root of four times as much, rounded up

pub near_half : (b Q : ℕ) → 0 < Q → IsRoot (4 * b) Q → IsNearestRoot b ((Q + 1) / 2)
near_half b Q P r = go ((Q + 1) / 2) ((Q + 1) % 2) (omega arith) (omega arith)
  where
    square : (x : ℕ) → Q ≡ x → Q * Q ≡ x * x
    square x e = ap (λ (x : ℕ). x * x) e

    go : (q s : ℕ) → Q + 1 ≡ 2 * q + s → s < 2 → IsNearestRoot b q
    go q (suc zero) e l = let f = square (2 * q) (omega arith) in (omega arith, omega arith)
    go zero zero e l = absurd (omega arith)
    go (suc p) zero e l = let f = square (2 * p + 1) (omega arith) in (omega arith, omega arith)
    go q (suc (suc s)) e l = absurd (omega arith)

-- ---- what `nearest` returns
pub nearest_is : (a Q : ℕ) → 2 ^ 52 ≤ a → a < 2 ^ 54 - 1 → IsRoot (a * 2 ^ 54) Q → IsNearestRoot (a * 2 ^ 52) ((Q + 1) / 2) × (2 ^ 52 ≤ (Q + 1) / 2) × ((Q + 1) / 2 < 2 ^ 53)
nearest_is a Q lo hi h =
    let b = root_bounds a Q lo (omega arith) h in
    let l : Q < 2 ^ 54 - 1 = grind arith in
    (near_half (a * 2 ^ 52) Q (omega arith) (omega arith, omega arith), omega arith, omega arith)

-- ---- what `Pattern::root` takes the root of

pub scaled_in : (m g : ℕ) → 2 ^ 52 ≤ m → m < 2 ^ 53 → (2 ^ 52 ≤ m * 2 ^ (g % 2)) × (m * 2 ^ (g % 2) < 2 ^ 54 - 1)
scaled_in m g lo hi = go (g % 2) (omega arith)
  where
    go : (s : ℕ) → s < 2 → (2 ^ 52 ≤ m * 2 ^ s) × (m * 2 ^ s < 2 ^ 54 - 1)
    go zero l = (omega arith, omega arith)
    go (suc zero) l = (omega arith, omega arith)
    go (suc (suc s)) l = absurd (omega arith)

pub scaled_same : (m g : ℕ) → 1022 ≤ g → m * 2 ^ g ≡ m * 2 ^ (g % 2) * 2 ^ 54 * (2 ^ (g / 2 - 27) * 2 ^ (g / 2 - 27))
scaled_same m g l =
    let h = g / 2 - 27 in
    ap (λ (x : ℕ). m * 2 ^ x) (sum g l)
    ∙ ap (λ (x : ℕ). m * x) (pow-add 2 (g % 2 + 54) (h + h) ∙ ap (λ (x : ℕ). x * 2 ^ (h + h)) (pow-add 2 (g % 2) 54) ∙ ap (λ (x : ℕ). 2 ^ (g % 2) * 2 ^ 54 * x) (pow-add 2 h h))
    ∙ sym (mul_assoc m (2 ^ (g % 2) * 2 ^ 54) (2 ^ h * 2 ^ h))
    ∙ ap (λ (x : ℕ). x * (2 ^ h * 2 ^ h)) (sym (mul_assoc m (2 ^ (g % 2)) (2 ^ 54)))
  where
    sum : (g : ℕ) → 1022 ≤ g → g ≡ g % 2 + 54 + (g / 2 - 27 + (g / 2 - 27))
    sum g l = omega arith

-- the nearest whole number has 53 digits
pub near_in : (a q : ℕ) → 2 ^ 52 ≤ a → a < 2 ^ 54 - 1 → IsNearestRoot (a * 2 ^ 52) q → (2 ^ 52 ≤ q) × (q < 2 ^ 53)
near_in a q lo hi n = grind arith
