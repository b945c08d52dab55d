-- A list of three or four is its elements; what holds of 0, 1 and 2 holds below 3.
use Prim.Native.Nat.{ℕ, zero, suc, ◌<◌}
use mathlib.Core.List.{List, [], ◌∷◌}
use mathlib.Core.Path.{◌≡◌, refl}
use native.Mathlib.Omega.{arith}
use lib.ListN.{length, get_or}

-- z is what is read past the end
module _ {A : Type 0} (z : A) where
  pub three_are : (l : List A) → length l ≡ 3 → l ≡ get_or l 0 z ∷ get_or l 1 z ∷ get_or l 2 z ∷ []
  three_are [] h = absurd (omega arith)
  three_are (a ∷ []) h = absurd (omega arith)
  three_are (a ∷ b ∷ []) h = absurd (omega arith)
  three_are (a ∷ b ∷ c ∷ []) h = refl
  three_are (a ∷ b ∷ c ∷ d ∷ l) h = absurd (omega arith)

  pub four_are : (l : List A) → length l ≡ 4 → l ≡ get_or l 0 z ∷ get_or l 1 z ∷ get_or l 2 z ∷ get_or l 3 z ∷ []
  four_are [] h = absurd (omega arith)
  four_are (a ∷ []) h = absurd (omega arith)
  four_are (a ∷ b ∷ []) h = absurd (omega arith)
  four_are (a ∷ b ∷ c ∷ []) h = absurd (omega arith)
  four_are (a ∷ b ∷ c ∷ d ∷ []) h = refl
  four_are (a ∷ b ∷ c ∷ d ∷ e ∷ l) h = absurd (omega arith)

pub below_three : (P : ℕ → Type 0) → P 0 → P 1 → P 2 → (a : ℕ) → a < 3 → P a
below_three P x y z zero h = x
below_three P x y z (suc zero) h = y
below_three P x y z (suc (suc zero)) h = z
below_three P x y z (suc (suc (suc a))) h = absurd (omega arith)
