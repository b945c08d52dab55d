-- A slice's sum in parts. Of the numbers in a density's list those of a slice stand nt apart.
use Rattle.std.specs.Prelude.{ℕ, ◌+◌, ◌*◌, ◌%◌, ◌<◌, List, Float, length, get_or}
use Rattle.std.specs.Float.{binary64}
use Rattle.std.specs.Float.Ieee.{add}
use Rattle.folds.specs.Folds.{fold_to, iter_to}
use Rattle.complex.specs.Rounded.{◌⊠◌}
use Rattle.slices.specs.Slices.{number}

-- ## Products of numbers where they stand, added to a sum

-- loop values times as many numbers of a density
unfoldable pub run_sum : List Float → List Float → ℕ → Float → Float
run_sum w S nt sum = fold_to (add binary64) sum (λ i. number w i ⊠ number S (nt * i)) (length w)

-- a row of loop values, the density taken rx further on in its row, from whose end it goes back to the beginning
unfoldable pub wrapped_sum : List Float → List Float → ℕ → ℕ → Float → Float
wrapped_sum w S nt rx sum = fold_to (add binary64) sum (λ x. number w x ⊠ number S (nt * ((x + rx) % length w))) (length w)

-- the density has a number for each loop value
pub record Reaches (w S : List Float) (nt : ℕ) : Type 0 where
  pub each : (i : ℕ) → i < length w → nt * i < length S

-- ## Any numbers f by place, added to a sum

-- those of the j-th row of a slice
unfoldable pub row_sum : List ℕ → (ℕ → Float) → ℕ → Float → Float
row_sum d f j sum = fold_to (add binary64) sum (λ x. f (x + get_or d 1 0 * j)) (get_or d 1 0)

-- those of a plane, row by row
unfoldable pub plane_sum : List ℕ → (ℕ → Float) → ℕ → Float → Float
plane_sum d f z sum = iter_to (λ y s. row_sum d f (y + get_or d 2 0 * z) s) sum (get_or d 2 0)
