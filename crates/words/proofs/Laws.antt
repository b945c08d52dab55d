-- The arithmetic of a product from halves, and of a rotation from two shifts. Assumes nothing.
use Rattle.std.proofs.Common.{◌≡◌, ℕ, suc, zero, ◌+◌, ◌-◌, ◌*◌, ◌/◌, ◌%◌, ◌^◌, ◌<◌, sym, ap, ◌∙◌, ap₂, lt_of_le_of_lt, add-zero, le_of_lt, mod-eq_of_lt, mul_assoc, add-mul, add_comm, mul-le-mul_left, mul-lt-mul_of_pos_right, mul-one, div-one, mul-add, mul_right_comm, arith, pow_pos, shr_lt, w64, Fits}
use native.Mathlib.Nat.{mul-mod_left, div-eq_of_lt}
use lib.Pow.{split, mod-pow-add, shl-shr}
use lib.Bits.{bit_and, bit_or, and_mask, mask_lt, or_shifted, or_self}
use Rattle.std.specs.Int.{rotate_left}
use Rattle.words.specs.Words.{rotl}

-- ---- the product

-- the low half of a word, as the code takes it
abbrev pub low : ℕ → ℕ
low a = bit_and a 0xffff_ffff

pub low_lt : (a : ℕ) → low a < 2 ^ 32
low_lt a = mask_lt a 32

-- a product of two halves fits a word
pub half_fits : {x y : ℕ} → x < 2 ^ 32 → y < 2 ^ 32 → Fits w64 (x * y)
half_fits {x} {y} hx hy = record { fits = lt_of_le_of_lt (mul-le-mul_left x (le_of_lt hy)) (mul-lt-mul_of_pos_right hx (pow_pos 32)) }

halves : (p q r s : ℕ) → (p * 2 ^ 32 + q) * (r * 2 ^ 32 + s) ≡ p * r * 2 ^ 64 + (p * s + q * r) * 2 ^ 32 + q * s
halves p q r s =
    omega (arith, add-mul (p * 2 ^ 32) q (r * 2 ^ 32 + s), mul-add (p * 2 ^ 32) (r * 2 ^ 32) s, mul-add q (r * 2 ^ 32) s, sym (mul_assoc (p * 2 ^ 32) r (2 ^ 32)), mul_right_comm p (2 ^ 32) r, mul_right_comm p (2 ^ 32) s, sym (mul_assoc q r (2 ^ 32)))

-- m is the sum of the middle products and r what the code returns: the product modulo 2 ^ 64
pub product : (a b m r : ℕ) → m ≡ (a / 2 ^ 32 * low b + low a * (b / 2 ^ 32)) % 2 ^ 64 → r ≡ (low a * low b + (m * 2 ^ 32) % 2 ^ 64) % 2 ^ 64 → r ≡ (a * b) % 2 ^ 64
product a b m r em er =
    let e : a * b ≡ a / 2 ^ 32 * (b / 2 ^ 32) * 2 ^ 64 + (a / 2 ^ 32 * low b + low a * (b / 2 ^ 32)) * 2 ^ 32 + low a * low b = ap₂ (λ (x y : ℕ). x * y) (whole a) (whole b) ∙ halves (a / 2 ^ 32) (low a) (b / 2 ^ 32) (low b) in
    omega arith
  where
    whole : (x : ℕ) → x ≡ x / 2 ^ 32 * 2 ^ 32 + low x
    whole x = sym (split x 32) ∙ ap (λ (y : ℕ). x / 2 ^ 32 * 2 ^ 32 + y) (sym (and_mask x 32))

-- the same where each sum and product of the code wraps
pub by_halves : (a b : ℕ) → ((low a * low b) % 2 ^ 64 + (((a / 2 ^ 32 * low b) % 2 ^ 64 + (low a * (b / 2 ^ 32)) % 2 ^ 64) % 2 ^ 64 * 2 ^ 32) % 2 ^ 64) % 2 ^ 64 ≡ (a * b) % 2 ^ 64
by_halves a b = product a b (((a / 2 ^ 32 * low b) % 2 ^ 64 + (low a * (b / 2 ^ 32)) % 2 ^ 64) % 2 ^ 64) (((low a * low b) % 2 ^ 64 + (((a / 2 ^ 32 * low b) % 2 ^ 64 + (low a * (b / 2 ^ 32)) % 2 ^ 64) % 2 ^ 64 * 2 ^ 32) % 2 ^ 64) % 2 ^ 64) (omega arith) (omega arith)

-- ---- the rotation

-- of w = j + k bits: what is shifted out at the top is below 2 ^ k, and the rest is a multiple of 2 ^ k
or_is_sum : (x w j k : ℕ) → w ≡ j + k → x < 2 ^ w → bit_or ((x * 2 ^ k) % 2 ^ w) (x / 2 ^ j) ≡ (x * 2 ^ k) % 2 ^ w + x / 2 ^ j
or_is_sum x w j k e h =
    let lost : x < 2 ^ (k + j) = rw (e ∙ add_comm j k) at h in
    rw (e, top) (or_shifted (x % 2 ^ j) k (x / 2 ^ j) (shr_lt k j lost))
  where
    top : (x * 2 ^ k) % 2 ^ (j + k) ≡ x % 2 ^ j * 2 ^ k
    top = mod-pow-add (x * 2 ^ k) j k ∙ ap₂ (λ (p r : ℕ). p % 2 ^ j * 2 ^ k + r) (shl-shr x k) (mul-mod_left x (2 ^ k)) ∙ add-zero (x % 2 ^ j * 2 ^ k)

pub rotl_by_shifts : (x k : ℕ) → x < 2 ^ 64 → k < 64 → bit_or ((x * 2 ^ k) % 2 ^ 64) (x / 2 ^ (64 - k)) ≡ rotl x k
rotl_by_shifts x k hx hk = or_is_sum x 64 (64 - k) k (omega arith) hx

pub rotl_zero : (x : ℕ) → x < 2 ^ 64 → rotl x 0 ≡ x
rotl_zero x h = ap₂ (λ (p q : ℕ). p + q) (ap (λ (y : ℕ). y % 2 ^ 64) (mul-one x) ∙ mod-eq_of_lt h) (div-eq_of_lt h) ∙ add-zero x

-- the library's, which shifts by 64 places less those of k, modulo 64
pub rotated : (x k : ℕ) → x < 2 ^ 64 → rotate_left w64 x k ≡ rotl x (k % 64)
rotated x k h = go (k % 64) (omega arith)
  where
    go : (j : ℕ) → j < 64 → bit_or ((x * 2 ^ j) % 2 ^ 64) (x / 2 ^ ((64 - j) % 64)) ≡ rotl x j
    go zero l = rw (mul-one x, mod-eq_of_lt h, div-one x, or_self x) (omega arith)
    go (suc j) l =
        let e : (64 - suc j) % 64 ≡ 64 - suc j = mod-eq_of_lt (omega arith) in
        rw e (or_is_sum x 64 (64 - suc j) (suc j) (omega arith) h)
