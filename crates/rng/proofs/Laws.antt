-- `uniform_of` rounds nothing, and the code's product is it. Assumes nothing.
use Rattle.std.proofs.Common.{◌≡◌, ℕ, ◌*◌, ◌/◌, ◌%◌, ◌^◌, ◌<◌, true, false, pos, negsuc, sym, refl, ap, ◌∙◌, true≢false, lt_of_lt_of_le, mul_assoc, lt_of_mul-lt-mul_right, mul-lt-mul_of_pos_right, mul-pos, arith, lit≤, pow_pos, pow_mono, shl_lt, lt-ltb}
use lib.Ieee as Ieee
use lib.Ieee.{Float, nan, inf, fin, binary64, of_int, of_bits, round, up, down, lt}
use lib.Ieee.Exact.{HasValue, round_exact}
use lib.Ieee.Fits.{down_pos}
use lib.Ieee.Back.{round_whole}
use lib.Ieee.Scale.{round_same}
use Rattle.rng.specs.Uniform.{uniform_of, UniformIsExact}

pub top_bits_lt : (raw : ℕ) → raw < 2 ^ 64 → raw / 2 ^ 11 < 2 ^ 53
top_bits_lt raw h = omega arith

fraction_exact : (raw : ℕ) → raw < 2 ^ 64 → HasValue (uniform_of raw) false (raw / 2 ^ 11) (2 ^ 53)
unfolding uniform_of
fraction_exact raw h =
    let n = raw / 2 ^ 11 in
    round_exact binary64 false n (2 ^ 53) n 1021 (pow_pos 53) (top_bits_lt raw h) (lt_of_lt_of_le (shl_lt 53 1021 (top_bits_lt raw h)) (pow_mono {i = 1074} {j = 2098} (lit≤ tt))) (sym (mul_assoc n (2 ^ 1021) (2 ^ 53)))

-- a fraction below 1 is below 1 as a float
fraction_below_one : (x : Float) (n d : ℕ) → 0 < d → n < d → HasValue x false n d → lt x (fin false 1 (pos 0)) ≡ true
unfolding lt
fraction_below_one nan n d p h v = absurd v
fraction_below_one (inf s) n d p h v = absurd v
fraction_below_one (fin true m e) n d p h v = absurd (true≢false v.0)
fraction_below_one (fin false m e) n d p h v =
    lt-ltb (m * up e * 1) (1 * 1 * down e) (lt_of_mul-lt-mul_right d (omega (arith, v.1, mul-lt-mul_of_pos_right {m = n} {n = d} h (down_pos e))))

pub uniform_exact : UniformIsExact
uniform_exact raw h =
    let value = fraction_exact raw h in
    record { exact = value; below_one = fraction_below_one (uniform_of raw) (raw / 2 ^ 11) (2 ^ 53) (pow_pos 53) (top_bits_lt raw h) value }

-- a whole number times 2 ^ -53
times_unit : (x : Float) (n : ℕ) → HasValue x false n 1 → Ieee.mul binary64 x (fin false 1 (negsuc 52)) ≡ round binary64 false n (2 ^ 53)
unfolding Ieee.mul
times_unit nan n h = absurd h
times_unit (inf t) n h = absurd h
times_unit (fin true m e) n h = absurd (true≢false h.0)
times_unit (fin false m e) n h =
    round_same binary64 false (m * up e * 1) (down e * 2 ^ 53) n (2 ^ 53) (mul-pos (down_pos e) (pow_pos 53)) (pow_pos 53) (ap (λ (z : ℕ). z * 2 ^ 53) h.1 ∙ mul_assoc n (down e) (2 ^ 53))

-- 1.0 / 2^53 as the code has it
unit_is : Ieee.div binary64 (of_bits binary64 0x3ff0_0000_0000_0000) (of_int binary64 (pos ((1 * 2 ^ 53) % 2 ^ 64))) ≡ fin false 1 (negsuc 52)
unfolding Ieee.div of_int of_bits
unit_is = refl

pub uniform_computed : (raw : ℕ) → raw < 2 ^ 64
    → Ieee.mul binary64 (of_int binary64 (pos (raw / 2 ^ 11))) (Ieee.div binary64 (of_bits binary64 0x3ff0_0000_0000_0000) (of_int binary64 (pos ((1 * 2 ^ 53) % 2 ^ 64)))) ≡ uniform_of raw
unfolding uniform_of of_int
uniform_computed raw h =
    ap (λ (u : Float). Ieee.mul binary64 (round binary64 false (raw / 2 ^ 11) 1) u) unit_is
    ∙ times_unit (round binary64 false (raw / 2 ^ 11) 1) (raw / 2 ^ 11) (round_whole binary64 false (raw / 2 ^ 11) (omega (arith, top_bits_lt raw h)))
