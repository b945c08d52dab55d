-- Accumulation for any loop value W at each site. The grid has a number for each density and each offset r in space: the sum over all sites of the loop value there times
-- the density at that offset, at the loop's middle time. Every slice of equal time is summed from +0; the slices' sums are added in the order of time.
use Rattle.std.specs.Prelude.{ℕ, ◌+◌, ◌*◌, ◌/◌, ◌%◌, cond, List, map, ltb, Float, length, get_or}
use Rattle.std.specs.Float.{nan, binary64}
use Rattle.std.specs.Float.Ieee.{add}
use Rattle.folds.specs.Folds.{fold_to}
use Rattle.complex.specs.Rounded.{◌⊞◌, ◌⊠◌, fzero}
use Rattle.geometry.specs.Range.{range}
use Rattle.geometry.specs.Radix.{volume, coords_of, index_of}
use Rattle.gauge.specs.Polyakov.{space, site_at}

-- ## Places

-- the number of places of space
abbrev pub places : List ℕ → ℕ
places d = volume (space d)

-- the place whose coordinates are those of the k-th plus c, each modulo its extent e
unfoldable pub shifted : List ℕ → List ℕ → ℕ → ℕ
shifted e c k = index_of e (map (λ mu. (get_or (coords_of e k) mu 0 + get_or c mu 0) % get_or e mu 0) (range (length e)))

-- the time at the middle of a loop of time length t_len that begins at t
abbrev pub mid_time : List ℕ → ℕ → ℕ → ℕ
mid_time d t_len t = (t + t_len / 2) % get_or d 0 0

-- ## Densities, in one list: density first, then site

abbrev pub number : List Float → ℕ → Float
number l n = get_or l n nan

-- the numbers from b on
abbrev pub numbers_from : List Float → ℕ → ℕ → Float
numbers_from l b n = number l (b + n)

-- the k-th density at each site
abbrev pub density_at : List ℕ → List Float → ℕ → ℕ → Float
density_at d dens k = numbers_from dens (k * volume d)

-- ## One slice: w has its loop values by place, S is a density

-- the loop value at the k-th place, times the density at the offset c from there, at time tm
unfoldable pub product_at : List ℕ → (ℕ → Float) → (ℕ → Float) → ℕ → List ℕ → ℕ → Float
product_at d w S tm c k = w k ⊠ S (site_at d tm (shifted (space d) c k))

-- over all places, x fastest, from +0
unfoldable pub slice_sum : List ℕ → (ℕ → Float) → (ℕ → Float) → ℕ → List ℕ → Float
slice_sum d w S tm c = fold_to (add binary64) fzero (product_at d w S tm c) (places d)

-- the grid with the slice's sums added, density first, then offset
unfoldable pub with_slice : List ℕ → (ℕ → Float) → List Float → ℕ → List Float → List Float
with_slice d w dens tm grid =
    map
    (λ j. number grid j ⊞ slice_sum d w (density_at d dens (j / places d)) tm (coords_of (space d) (j % places d)))
    (range (length grid))

-- ## All slices

-- the sum over the slice t for a density S and the r-th offset
unfoldable pub cell_sum : List ℕ → (ℕ → Float) → (ℕ → Float) → ℕ → ℕ → ℕ → Float
cell_sum d W S t_len t r = slice_sum d (λ k. W (site_at d t k)) S (mid_time d t_len t) (coords_of (space d) r)

-- the loop values of the slice t, summed
unfoldable pub loop_sum : List ℕ → (ℕ → Float) → ℕ → Float
loop_sum d W t = fold_to (add binary64) fzero (λ k. W (site_at d t k)) (places d)

-- the grid after n slices: each number that it had, then the slices' sums one by one; density first, then offset
unfoldable pub grid_after : List ℕ → (ℕ → Float) → List Float → ℕ → ℕ → List Float → ℕ → List Float
grid_after d W dens t_len count old n =
    map
    (λ j. fold_to (add binary64) (number old j) (λ t. cell_sum d W (density_at d dens (j / places d)) t_len t (j % places d)) n)
    (range (count * places d))

-- after all of them
unfoldable pub grid_of : List ℕ → (ℕ → Float) → List Float → ℕ → ℕ → List Float → List Float
grid_of d W dens t_len count old = grid_after d W dens t_len count old (get_or d 0 0)

-- the loops' sum w that was, then the sums of n slices one by one
unfoldable pub loops_after : List ℕ → (ℕ → Float) → Float → ℕ → Float
loops_after d W w n = fold_to (add binary64) w (loop_sum d W) n

unfoldable pub loops_of : List ℕ → (ℕ → Float) → Float → Float
loops_of d W w = loops_after d W w (get_or d 0 0)

-- ## Densities summed: one sum over all sites, from +0

unfoldable pub density_sum : List ℕ → List Float → ℕ → Float
density_sum d dens k = fold_to (add binary64) fzero (density_at d dens k) (volume d)

-- four sums, those of the first count densities with the density's sum added
unfoldable pub sums_of : List ℕ → List Float → ℕ → List Float → List Float
sums_of d dens count s = map (λ k. cond (ltb k count) (number s k ⊞ density_sum d dens k) (number s k)) (range 4)
