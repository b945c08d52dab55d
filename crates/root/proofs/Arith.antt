-- Squares and powers of two, in order. Assumes nothing.
use Rattle.std.proofs.Common.{◌≡◌, ℕ, suc, ◌*◌, ◌^◌, ◌<◌, ◌≤◌, le_of_lt, lt_of_le_of_lt, mul-le-mul_left, mul-lt-mul_of_pos_right, lt_of_lt_of_le, lt_irrefl, lt_of_not-le, not-le_of_lt, arith, pow_mono}
use lib.Pow.{pow-lt}

pub le_of_lt_suc : {x y : ℕ} → x < suc y → x ≤ y
le_of_lt_suc h = omega arith

pub le_of_not_lt : {x y : ℕ} → (y < x → ⊥) → x ≤ y
le_of_not_lt f = le_of_lt_suc (lt_of_not-le f)

pub squares : (a b : ℕ) → a * b * (a * b) ≡ a * a * (b * b)
squares a b = omega arith

pub product_lt : (a b m n : ℕ) → a < m → b < n → a * b < m * n
product_lt a b m n h k = lt_of_le_of_lt (mul-le-mul_left a (le_of_lt k)) (mul-lt-mul_of_pos_right h (pos_of b n k))
  where
    pos_of : (b n : ℕ) → b < n → 0 < n
    pos_of b n k = omega arith

pub sq_mono : {a b : ℕ} → a ≤ b → a * a ≤ b * b
sq_mono h = grind arith

pub sq_lt : {a b : ℕ} → a < b → a * a < b * b
sq_lt l = grind arith

pub sq_lt_back : (a b : ℕ) → a * a < b * b → a < b
sq_lt_back a b h = grind arith

pub pow_lt_back : (i j : ℕ) → 2 ^ i < 2 ^ j → i < j
pow_lt_back i j h = lt_of_not-le (λ (g : j ≤ i). not-le_of_lt h (pow_mono g))

pub pow_le_back : (i j : ℕ) → 2 ^ i ≤ 2 ^ j → i ≤ j
pow_le_back i j h = le_of_not_lt (λ (g : j < i). lt_irrefl (2 ^ j) (lt_of_lt_of_le (pow-lt g) h))
