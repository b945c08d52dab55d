-- Four steps of splitmix64 make a generator.
use Rattle.std.proofs.Common.{◌≡◌, ℕ, List, [], ◌∷◌, length, get_or, refl}
use Rattle.rng.specs.Splitmix.{splitmix_of}
use Rattle.rng.specs.Stream.{seeded_of}

pub four : (s : List ℕ) → length s ≡ 4 → s ≡ get_or s 0 0 ∷ get_or s 1 0 ∷ get_or s 2 0 ∷ get_or s 3 0 ∷ []
four (a ∷ b ∷ c ∷ d ∷ []) l = refl
four [] l = cc
four (a ∷ []) l = cc
four (a ∷ b ∷ []) l = cc
four (a ∷ b ∷ c ∷ []) l = cc
four (a ∷ b ∷ c ∷ d ∷ e ∷ s) l = cc

-- x, y, z are the states of the first three steps
pub seeded : (key : ℕ) (s : List ℕ) (x y z : ℕ) → length s ≡ 4
    → get_or s 0 0 ≡ (splitmix_of key).out → x ≡ (splitmix_of key).state
    → get_or s 1 0 ≡ (splitmix_of x).out → y ≡ (splitmix_of x).state
    → get_or s 2 0 ≡ (splitmix_of y).out → z ≡ (splitmix_of y).state
    → get_or s 3 0 ≡ (splitmix_of z).out
    → record { s = s } ≡ seeded_of key
unfolding seeded_of
seeded key s x y z l a b c d e f g =
    let h = four s l in
    rw (h, a, c, e, g, f, d, b)
