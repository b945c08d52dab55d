-- What follows from the definitions.
use Rattle.std.specs.Prelude.{ℕ, ◌+◌, ◌*◌, ◌/◌, ◌%◌, ◌<◌, List, ◌∷◌, map, ◌≡◌, Float, length, get_or}
use Rattle.std.specs.Float.{nan, binary64}
use Rattle.std.specs.Float.Ieee.{add}
use Rattle.folds.specs.Folds.{fold_to}
use Rattle.geometry.specs.Range.{range}
use Rattle.geometry.specs.Radix.{volume, coords_of}
use Rattle.geometry.specs.Shape.{Shape}
use Rattle.gauge.specs.Polyakov.{space, site_at}
use Rattle.slices.specs.Slices.{places, shifted, density_at, cell_sum, grid_of}

-- a time and a place of space make a site, and each site is made once
pub record SitesBySlices : Type 0 where
  pub below : (d : List ℕ) → 0 < length d → (t k : ℕ) → t < get_or d 0 0 → k < places d → site_at d t k < volume d
  pub coords : (d : List ℕ) → 0 < length d → (t k : ℕ) → t < get_or d 0 0 → k < places d → coords_of d (site_at d t k) ≡ t ∷ coords_of (space d) k
  pub every : (d : List ℕ) → 0 < length d → (n : ℕ) → n < volume d → site_at d (n % get_or d 0 0) (n / get_or d 0 0) ≡ n

-- an offset leads to a place, whose coordinates are the sums modulo the extents
pub record OffsetsWrap : Type 0 where
  pub below : (e c : List ℕ) → 0 < volume e → (k : ℕ) → shifted e c k < volume e
  pub coords : (e c : List ℕ) → 0 < volume e → (k : ℕ) → coords_of e (shifted e c k) ≡ map (λ mu. (get_or (coords_of e k) mu 0 + get_or c mu 0) % get_or e mu 0) (range (length e))

-- a number of the grid is the one that it was, then the slices' sums for its density and its offset
abbrev pub GridIsSumOfSlices : Type 0
GridIsSumOfSlices = (d : List ℕ) (W : ℕ → Float) (dens : List Float) (t_len count : ℕ) (old : List Float) (k r : ℕ) → k < count → r < places d
    → get_or (grid_of d W dens t_len count old) (k * places d + r) nan
    ≡ fold_to (add binary64) (get_or old (k * places d + r) nan) (λ t. cell_sum d W (density_at d dens k) t_len t r) (get_or d 0 0)

-- and depends on no other density
abbrev pub DensitiesApart : Type 0
DensitiesApart = (d : List ℕ) → Shape d → (W : ℕ → Float) (dens other : List Float) (t_len count : ℕ) (old : List Float) (k : ℕ) → k < count
    → ((n : ℕ) → n < volume d → density_at d dens k n ≡ density_at d other k n) → (r : ℕ) → r < places d
    → get_or (grid_of d W dens t_len count old) (k * places d + r) nan ≡ get_or (grid_of d W other t_len count old) (k * places d + r) nan
