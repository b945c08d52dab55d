-- The generator of a stream: seed, pass, direction and site make one key, and four steps of splitmix64 from it are the state. Definitions only.
use Rattle.std.specs.Prelude.{ℕ, [], ◌∷◌, bit_xor}
use Rattle.words.specs.Words.{mul64}
use Rattle.rng.specs.Splitmix.{splitmix_of}
use Rattle.rng.specs.declared.Rng.{Rng}

unfoldable pub key_of : ℕ → ℕ → ℕ → ℕ → ℕ
unfolding splitmix_of
key_of seed pass mu site =
    bit_xor (bit_xor (bit_xor (splitmix_of seed).out (mul64 pass 0xd1b5_4a32_d192_ed03)) (mul64 mu 0xabc9_8388_fb8f_ac03)) (mul64 site 0x8cb9_2ba7_2f3d_8dd7)

unfoldable pub seeded_of : ℕ → Rng
unfolding splitmix_of
seeded_of key =
    let a = splitmix_of key in
    let b = splitmix_of a.state in
    let c = splitmix_of b.state in
    let d = splitmix_of c.state in
    record { s = a.out ∷ b.out ∷ c.out ∷ d.out ∷ [] }

unfoldable pub stream_of : ℕ → ℕ → ℕ → ℕ → Rng
unfolding key_of seeded_of
stream_of seed pass mu site = seeded_of (key_of seed pass mu site)
