-- Laws for a caller that goes over the slices: of each it makes the list of loop values, adds their total to w, and adds the slice to the grid.
use Rattle.std.proofs.Common.{ℕ, ◌+◌, ◌*◌, ◌/◌, ◌%◌, ◌<◌, List, ◌≡◌, length, get_or, refl, ap, ap₂, sym, ◌∙◌, add-one}
use Rattle.std.specs.List.{fold}
use lib.Ieee.{Float, nan, binary64, add}
use Rattle.folds.specs.Folds.{fold_to}
use Rattle.folds.proofs.Lists.{folded}
use Rattle.folds.proofs.Laws.{fold_none, fold_next}
use Rattle.folds.proofs.Folds.{fold_same}
use Rattle.complex.specs.Rounded.{◌⊞◌, fzero}
use Rattle.geometry.specs.Radix.{coords_of}
use Rattle.geometry.specs.Shape.{Shape}
use Rattle.geometry.proofs.Range.{listed_at}
use Rattle.gauge.specs.Polyakov.{space, site_at}
use Rattle.slices.specs.Slices.{places, mid_time, number, density_at, with_slice, cell_sum, loop_sum, grid_after, grid_of, loops_after, loops_of}
use Rattle.slices.proofs.Filled.{listed_same, listed_is}
use Rattle.slices.proofs.SliceAdded.{slice_sum_same}

module _ (d : List ℕ) (W : ℕ → Float) where
  -- l has the loop values of the slice t
  pub record Loops (t : ℕ) (l : List Float) : Type 0 where
    pub len : length l ≡ places d
    pub each : (k : ℕ) → k < places d → number l k ≡ W (site_at d t k)

  -- ## the loops' sum

  pub loops_start : (w : Float) → w ≡ loops_after d W w 0
  unfolding loops_after
  loops_start w = fold_none (add binary64) w (loop_sum d W)

  pub loops_next : (w : Float) (t : ℕ) {l : List Float} {a x : Float} → a ≡ loops_after d W w t → Loops t l → x ≡ fold (add binary64) fzero l → a ⊞ x ≡ loops_after d W w (t + 1)
  unfolding loops_after loop_sum
  loops_next w t {l} {a} {x} so_far loops e =
      let sum : x ≡ loop_sum d W t
      = e ∙ sym (folded (add binary64) fzero l nan) ∙ rw loops.len (fold_same (add binary64) fzero (number l) _ (places d) loops.each) in
      fold_next (add binary64) w (loop_sum d W) t so_far sum refl

  pub loops_done : (w : Float) {t : ℕ} {a : Float} → t ≡ get_or d 0 0 → a ≡ loops_after d W w t → a ≡ loops_of d W w
  unfolding loops_of
  loops_done w e a = rw e at a

  -- ## the grid after t slices

  module _ (dens : List Float) (t_len count : ℕ) (old : List Float) where
    abbrev g : ℕ
    g = count * places d

    pub grid_start : length old ≡ g → old ≡ grid_after d W dens t_len count old 0
    unfolding grid_after fold_to
    grid_start len = listed_is (number old) old nan len (λ k h. refl)

    pub grid_next : Shape d → (t : ℕ) {s l exit : List Float} → length s ≡ g → Loops t l → mid_time d t_len t < get_or d 0 0 → s ≡ grid_after d W dens t_len count old t
        → exit ≡ with_slice d (number l) dens (mid_time d t_len t) s → exit ≡ grid_after d W dens t_len count old (t + 1)
    unfolding grid_after fold_to cell_sum with_slice
    grid_next shape t {s} {l} len loops time so_far e =
        e ∙ rw len (listed_same _ _ nan g (λ j h.
        let before = ap (λ (m : List Float). number m j) so_far ∙ listed_at _ nan g j h in
        let sum = slice_sum_same d (number l) (λ k. W (site_at d t k)) (density_at d dens (j / places d)) _ (mid_time d t_len t) (coords_of (space d) (j % places d)) shape time loops.each (λ n i. refl) in
        rw (add-one t) (ap₂ ◌⊞◌ before sum)))

    pub grid_done : {t : ℕ} {l : List Float} → t ≡ get_or d 0 0 → l ≡ grid_after d W dens t_len count old t → l ≡ grid_of d W dens t_len count old
    unfolding grid_of
    grid_done e h = rw e at h
