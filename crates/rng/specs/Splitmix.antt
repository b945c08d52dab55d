-- splitmix64, of Steele, Lea and Flood, which Blackman and Vigna give for seeding: a counter that moves on by a constant, and two products that mix it. Definitions only.
use Rattle.std.specs.Prelude.{ℕ, ◌/◌, ◌^◌, bit_xor}
use Rattle.words.specs.Words.{add64, mul64}

-- x ^ (x >> k)
abbrev pub xor_shift : ℕ → ℕ → ℕ
xor_shift k x = bit_xor x (x / 2 ^ k)

-- what the state z gives
unfoldable pub mix_of : ℕ → ℕ
mix_of z = xor_shift 31 (mul64 (xor_shift 27 (mul64 (xor_shift 30 z) 0xbf58_476d_1ce4_e5b9)) 0x94d0_49bb_1331_11eb)

-- a state, and the word that the step to it gave
pub record Mixed : Type 0 where
  pub state : ℕ
  pub out : ℕ

-- one step from the state x
unfoldable pub splitmix_of : ℕ → Mixed
unfolding mix_of
splitmix_of x = let z = add64 x 0x9e37_79b9_7f4a_7c15 in record { state = z; out = mix_of z }
