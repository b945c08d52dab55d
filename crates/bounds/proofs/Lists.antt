-- The matrices that a list of bounded numbers holds are bounded.
use Prim.Native.Nat.{ℕ, ◌+◌, ◌*◌, ◌<◌, ◌≤◌}
use mathlib.Core.Bool.{true}
use mathlib.Core.List.{List}
use mathlib.Core.Path.{◌≡◌}
use native.Mathlib.Omega.{arith}
use lib.Ieee.{Float, nan}
use lib.ListN.{length, get_or}
use Rattle.folds.proofs.Laws.{all_each}
use Rattle.links.specs.Store.{cell_at, matrix_at}
use Rattle.links.specs.Field.{place_of, field_of, Sized}
use Rattle.links.proofs.Laws.{room}
use Rattle.bounds.specs.Magnitude.{Magnitude, all_within_two}
use Rattle.bounds.proofs.Numbers.{within_two_lem}
use Rattle.bounds.proofs.Matrices.{ComplexMagnitude, MatrixMagnitude, magnitude_each}

module _ (l : List Float) {k : ℕ} (numbers : (i : ℕ) → i < length l → Magnitude k (get_or l i nan)) where
  pub magnitude_cell_at : (p : ℕ) → p + 1 < length l → ComplexMagnitude k (cell_at l p)
  unfolding cell_at
  magnitude_cell_at p h = record { re = numbers p (omega arith); im = numbers (p + 1) h }

  pub magnitude_matrix_at : (p : ℕ) → p + 18 ≤ length l → MatrixMagnitude k (matrix_at l p)
  unfolding matrix_at
  magnitude_matrix_at p h = magnitude_each (λ i g. magnitude_cell_at (p + 2 * i) (omega arith))

  pub magnitude_field_of : (v mu n : ℕ) → Sized l v → mu < 4 → n < v → MatrixMagnitude k (field_of v l mu n)
  magnitude_field_of v mu n s h g = magnitude_matrix_at (place_of v mu n) (room l v mu n s h g)

module _ (l : List Float) (all : all_within_two l ≡ true) where
  pub within_two_at : (i : ℕ) → i < length l → Magnitude 1 (get_or l i nan)
  unfolding all_within_two
  within_two_at i h = within_two_lem (all_each _ (length l) i h all)

  pub within_two_field_of : (v mu n : ℕ) → Sized l v → mu < 4 → n < v → MatrixMagnitude 1 (field_of v l mu n)
  within_two_field_of = magnitude_field_of l within_two_at
