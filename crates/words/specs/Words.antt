-- 64-bit words as whole numbers below 2 ^ 64: sums and products modulo 2 ^ 64, shifts and rotation. Definitions only.
use Rattle.std.specs.Prelude.{ℕ, ◌+◌, ◌-◌, ◌*◌, ◌/◌, ◌%◌, ◌^◌}

abbrev pub add64 : ℕ → ℕ → ℕ
add64 a b = (a + b) % 2 ^ 64

abbrev pub mul64 : ℕ → ℕ → ℕ
mul64 a b = (a * b) % 2 ^ 64

abbrev pub shl64 : ℕ → ℕ → ℕ
shl64 x k = (x * 2 ^ k) % 2 ^ 64

-- x rotated left by k of 64 places: what is shifted out at the top comes in at the bottom
abbrev pub rotl : ℕ → ℕ → ℕ
rotl x k = shl64 x k + x / 2 ^ (64 - k)
