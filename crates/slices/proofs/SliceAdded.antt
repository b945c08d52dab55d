-- One slice added to the grid, cell by cell.
use Rattle.std.proofs.Common.{ℕ, ◌+◌, ◌*◌, ◌/◌, ◌%◌, ◌<◌, List, ◌≡◌, length, get_or, take, drop, set, refl, arith}
use native.Mathlib.Nat.{mod-lt}
use lib.Ieee.{Float, nan, binary64, add}
use Rattle.folds.specs.Folds.{fill}
use Rattle.folds.proofs.Laws.{fill_next, fill_past}
use Rattle.folds.proofs.Folds.{fold_same}
use Rattle.complex.specs.Rounded.{◌⊞◌, fzero}
use Rattle.geometry.specs.Radix.{volume, coords_of, Within}
use Rattle.geometry.specs.Shape.{Shape}
use Rattle.geometry.proofs.Radix.{coords_within}
use Rattle.geometry.proofs.Shape.{axis_in}
use Rattle.gauge.specs.Polyakov.{space}
use Rattle.gauge.proofs.TimeLine.{site_below}
use Rattle.slices.specs.Slices.{places, number, density_at, product_at, slice_sum, with_slice}
use Rattle.slices.proofs.Filled.{part_at}
use Rattle.geometry.proofs.Range.{fill_listed}
use Rattle.slices.proofs.Space.{shifted_below}

-- a slice's sum depends on its loop values and on the density at its sites alone
pub slice_sum_same : (d : List ℕ) (w u S T : ℕ → Float) (tm : ℕ) (c : List ℕ) → Shape d → tm < get_or d 0 0
    → ((k : ℕ) → k < places d → w k ≡ u k) → ((n : ℕ) → n < volume d → S n ≡ T n) → slice_sum d w S tm c ≡ slice_sum d u T tm c
unfolding slice_sum product_at
slice_sum_same d w u S T tm c shape time loops density =
    fold_same (add binary64) fzero _ _ (places d)
    (λ k h. rw (loops k h, density _ (site_below d (axis_in d shape 0 (omega arith)) tm _ time (shifted_below (space d) c (omega (arith, h)) k))))

-- the j-th number of the grid with the slice's sum added
abbrev pub cell_added : List ℕ → (ℕ → Float) → List Float → ℕ → List Float → ℕ → Float
cell_added d w dens tm grid j = number grid j ⊞ slice_sum d w (density_at d dens (j / places d)) tm (coords_of (space d) (j % places d))

module _ (d : List ℕ) (shape : Shape d) {v : ℕ} (same : v ≡ places d) (some : 0 < v) (j : ℕ) where
  pub there : j % v < places d
  there = rw (← same) (mod-lt j some)

  pub offset_within : Within (space d) (coords_of (space d) (j % v))
  offset_within = coords_within (space d) (j % v) (omega (arith, there))

  pub cell_next : (w : ℕ → Float) (dens : List Float) (tm : ℕ) (grid : List Float) → tm < get_or d 0 0 → {part l : List Float} {x : Float} → part ≡ take (volume d) (drop (j / v * volume d) dens)
      → l ≡ fill (cell_added d w dens tm grid) grid j → {n c : List ℕ} → n ≡ space d → c ≡ coords_of n (j % v) → x ≡ slice_sum d w (number part) tm c → set l j (number l j ⊞ x) ≡ fill (cell_added d w dens tm grid) grid (j + 1)
  cell_next w dens tm grid time {part} {l} {x} is e m off sum =
      let old : number l j ≡ number grid j = rw e (fill_past (cell_added d w dens tm grid) grid nan j j (omega arith)) in
      let read : (n : ℕ) → n < volume d → number part n ≡ density_at d dens (j / v) n = λ n h. rw is (part_at dens (j / v * volume d) (volume d) n nan h) in
      let new : x ≡ slice_sum d w (density_at d dens (j / v)) tm (coords_of (space d) (j % v))
      = rw (sum, off, m) (slice_sum_same d w w (number part) (density_at d dens (j / v)) tm _ shape time (λ k h. refl) read) in
      fill_next _ _ _ e (rw (old, new, same))

pub slice_added : (d : List ℕ) (w : ℕ → Float) (dens : List Float) (tm : ℕ) (grid : List Float) {l : List Float} {n : ℕ} → l ≡ fill (cell_added d w dens tm grid) grid n → n ≡ length grid → l ≡ with_slice d w dens tm grid
unfolding with_slice
slice_added d w dens tm grid e all = rw (e, all) (fill_listed _ grid (length grid) refl)
