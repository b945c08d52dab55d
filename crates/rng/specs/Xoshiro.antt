-- xoshiro256++ as Blackman and Vigna give it ("Scrambled linear pseudorandom number generators"): four words, one draw, and the words after it. Definitions only.
use Rattle.std.specs.Prelude.{ℕ, [], ◌∷◌, bit_xor, slice_index}
use Rattle.words.specs.Words.{add64, shl64, rotl}
use Rattle.rng.specs.declared.Rng.{Rng}

-- s[k]
abbrev pub word : Rng → ℕ → ℕ
word r k = slice_index r.s k

-- rotl(s[0] + s[3], 23) + s[0]
unfoldable pub result_of : Rng → ℕ
result_of r = add64 (rotl (add64 (word r 0) (word r 3)) 23) (word r 0)

-- t = s[1] << 17; s[2] ^= s[0]; s[3] ^= s[1]; s[1] ^= s[2]; s[0] ^= s[3]; s[2] ^= t; s[3] = rotl(s[3], 45)
unfoldable pub next_of : Rng → Rng
next_of r =
    let t = shl64 (word r 1) 17 in
    let s2 = bit_xor (word r 2) (word r 0) in
    let s3 = bit_xor (word r 3) (word r 1) in
    let s1 = bit_xor (word r 1) s2 in
    let s0 = bit_xor (word r 0) s3 in
    record { s = s0 ∷ s1 ∷ bit_xor s2 t ∷ rotl s3 45 ∷ [] }

-- what is drawn, and the generator after it
pub record Draw (A : Type 0) : Type 0 where
  pub value : A
  pub rng : Rng

unfoldable pub draw_of : Rng → Draw ℕ
unfolding result_of next_of
draw_of r = record { value = result_of r; rng = next_of r }
