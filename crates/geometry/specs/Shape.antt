-- The extents of a field: four, each even and from 2 to 16; and those of a grid. Definitions only.
use Rattle.std.specs.Prelude.{ℕ, ◌%◌, ◌<◌, ◌≤◌, Bool, ◌&&◌, List, ◌≡◌, leb, eqb, length, get_or}
use Rattle.folds.specs.Folds.{all_below}

pub record Extent (e : ℕ) : Type 0 where
  pub low : 2 ≤ e
  pub high : e ≤ 16
  pub even : e % 2 ≡ 0

pub record Shape (d : List ℕ) : Type 0 where
  pub four : length d ≡ 4
  pub each : (mu : ℕ) → mu < 4 → Extent (get_or d mu 0)

-- the extents of a grid in space: three
pub record GridShape (n : List ℕ) : Type 0 where
  pub three : length n ≡ 3
  pub each : (a : ℕ) → a < 3 → Extent (get_or n a 0)

-- the same as tests
unfoldable pub extent_test : ℕ → Bool
extent_test e = leb 2 e && leb e 16 && eqb (e % 2) 0

unfoldable pub fits_of : List ℕ → Bool
fits_of d = all_below (λ mu. extent_test (get_or d mu 0)) 4
