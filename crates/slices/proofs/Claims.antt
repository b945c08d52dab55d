-- The claims of specs/Claims.antt.
use Rattle.std.proofs.Common.{ℕ, zero, suc, ◌+◌, ◌*◌, ◌/◌, ◌%◌, ◌<◌, List, [], ◌∷◌, ◌≡◌, length, get_or, refl, ap, sym, ◌∙◌, add-zero, mod-eq_of_lt, arith}
use native.Mathlib.Nat.{mod-lt, div-eq_of_lt, mul-le-mul_right, mul-add-div_right, mul-add-mod_self_right, mod-add-div}
use lib.Ieee.{Float, nan, binary64, add}
use Rattle.folds.proofs.Folds.{fold_same}
use Rattle.geometry.specs.Radix.{volume, coords_of, Within}
use Rattle.geometry.specs.Shape.{Shape}
use Rattle.geometry.proofs.Bounds.{quotient_below}
use Rattle.geometry.proofs.Radix.{left_pos, coords_within, coords_index}
use Rattle.geometry.proofs.Range.{listed_at}
use Rattle.gauge.specs.Polyakov.{space, site_at}
use Rattle.gauge.proofs.TimeLine.{site_at_lem, site_below}
use Rattle.slices.specs.Slices.{places, mid_time, density_at, cell_sum, grid_after, grid_of}
use Rattle.slices.specs.Claims.{SitesBySlices, OffsetsWrap, GridIsSumOfSlices, DensitiesApart}
use Rattle.slices.proofs.SliceAdded.{slice_sum_same}
use Rattle.slices.proofs.Space.{shifted_below, shifted_coords}

-- ## sites

site_within : (d : List ℕ) → 0 < length d → (t k : ℕ) → t < get_or d 0 0 → k < places d → Within d (t ∷ coords_of (space d) k)
site_within [] p t k h g = absurd (omega arith)
site_within (e ∷ d) p t k h g = record { len = ap suc there.len; each = go }
  where
    there : Within d (coords_of d k)
    there = coords_within d k (omega arith)

    go : (mu : ℕ) → mu < length (e ∷ d) → get_or (t ∷ coords_of d k) mu 0 < get_or (e ∷ d) mu 0
    go zero i = h
    go (suc mu) i = there.each mu (omega arith)

site_coords : (d : List ℕ) → 0 < length d → (t k : ℕ) → t < get_or d 0 0 → k < places d → coords_of d (site_at d t k) ≡ t ∷ coords_of (space d) k
unfolding site_at
site_coords d p t k h g = coords_index d (t ∷ coords_of (space d) k) (site_within d p t k h g)

every_site : (d : List ℕ) → 0 < length d → (n : ℕ) → n < volume d → site_at d (n % get_or d 0 0) (n / get_or d 0 0) ≡ n
unfolding volume
every_site [] p n h = absurd (omega arith)
every_site (e ∷ d) p n h =
    let pos : 0 < e = left_pos e (volume d) (omega arith) in
    let inside : n / e < volume d = quotient_below pos h in
    site_at_lem (e ∷ d) p (n % e) (n / e) inside ∙ mod-add-div n e

pub sites_by_slices : SitesBySlices
sites_by_slices = record { below = site_below; coords = site_coords; every = every_site }

-- ## offsets

pub offsets_wrap : OffsetsWrap
offsets_wrap = record { below = shifted_below; coords = shifted_coords }

-- ## the grid

module _ (d : List ℕ) (k r : ℕ) (inside : r < places d) where
  pos : 0 < places d
  pos = omega arith

  density_is : (k * places d + r) / places d ≡ k
  density_is = mul-add-div_right pos k r ∙ rw (div-eq_of_lt inside) (add-zero k)

  offset_is : (k * places d + r) % places d ≡ r
  offset_is = mul-add-mod_self_right k (places d) r ∙ mod-eq_of_lt inside

  cell_below : (count : ℕ) → k < count → k * places d + r < count * places d
  cell_below count h = omega (arith, mul-le-mul_right (places d) h)

pub grid_is_sum_of_slices : GridIsSumOfSlices
unfolding grid_of grid_after
grid_is_sum_of_slices d W dens t_len count old k r h g = listed_at _ nan (count * places d) (k * places d + r) (cell_below d k r g count h) ∙ rw (density_is d k r g, offset_is d k r g)

-- ## each density by itself

module _ (d : List ℕ) (shape : Shape d) (W S T : ℕ → Float) (same : (n : ℕ) → n < volume d → S n ≡ T n) where
  time : 0 < get_or d 0 0
  time = omega (arith, (shape.each 0 (omega arith)).low)

  cell_same : (t_len t r : ℕ) → cell_sum d W S t_len t r ≡ cell_sum d W T t_len t r
  unfolding cell_sum
  cell_same t_len t r = slice_sum_same d _ _ S T (mid_time d t_len t) (coords_of (space d) r) shape (mod-lt _ time) (λ k h. refl) same

pub densities_apart : DensitiesApart
densities_apart d shape W dens other t_len count old k h same r g =
    grid_is_sum_of_slices d W dens t_len count old k r h g
    ∙ fold_same (add binary64) _ _ _ (get_or d 0 0) (λ t i. cell_same d shape W (density_at d dens k) (density_at d other k) same t_len t r)
    ∙ sym (grid_is_sum_of_slices d W other t_len count old k r h g)
