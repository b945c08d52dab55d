-- The staircase of unit steps from the origin to an offset d that stays as near as it can to the straight line. Definitions only.
use Rattle.std.specs.Prelude.{ℕ, zero, suc, ◌+◌, ◌<◌, ◌≤◌, Bool, false, cond, ◌||◌, List, [], ◌∷◌, map, set, ℤ, pos, nat_abs, ◌+ℤ◌, Float}
use Rattle.std.specs.Int.{int_signum}
use Rattle.std.specs.Int.Signed.{lt_z}
use Rattle.std.specs.Float.Ieee.{lt}
use Rattle.geometry.specs.Range.{range}
use Rattle.stairs.specs.declared.Step.{Step}
use Rattle.stairs.specs.Line.{along_of, line_dist}

-- ## One step

unfoldable pub differs : ℤ → ℤ → Bool
differs x y = lt_z x y || lt_z y x

-- the place one step on along an axis
unfoldable pub stepped_to : List ℤ → List ℤ → ℕ → List ℤ
stepped_to p d a = set p a (along_of p a +ℤ int_signum (along_of d a))

-- its distance from the line
abbrev pub step_dist : List ℤ → List ℤ → ℕ → Float
step_dist p d a = line_dist (stepped_to p d a) d

-- those of the axes along which something is left
unfoldable pub left_of : List ℤ → List ℤ → List ℕ → List ℕ
left_of p d [] = []
left_of p d (a ∷ axes) = cond (differs (along_of p a) (along_of d a)) (a ∷ left_of p d axes) (left_of p d axes)

-- of an axis and further ones the one with the least f; of equal ones the first
unfoldable pub first_min : (ℕ → Float) → ℕ → List ℕ → ℕ
first_min f best [] = best
first_min f best (a ∷ axes) = first_min f (cond (lt (f a) (f best)) a best) axes

unfoldable pub least_of : (ℕ → Float) → List ℕ → ℕ
least_of f [] = 0
least_of f (a ∷ axes) = first_min f a axes

-- the axis of the step that keeps nearest to the line
unfoldable pub best_of : List ℤ → List ℤ → ℕ
best_of p d = least_of (step_dist p d) (left_of p d (0 ∷ 1 ∷ 2 ∷ []))

-- the step along it: x, y, z are the lattice's axes 1, 2, 3
unfoldable pub step_along : List ℤ → ℕ → Step
step_along d a = record { axis = a + 1; forward = lt_z (pos 0) (along_of d a) }

-- ## All of them

-- the place after i steps
unfoldable pub place_at : List ℤ → ℕ → List ℤ
place_at d zero = pos 0 ∷ pos 0 ∷ pos 0 ∷ []
place_at d (suc i) = stepped_to (place_at d i) d (best_of (place_at d i) d)

-- the step that leads on from there
unfoldable pub step_at : List ℤ → ℕ → Step
step_at d i = step_along d (best_of (place_at d i) d)

-- |dx| + |dy| + |dz|
unfoldable pub steps_to : List ℤ → ℕ
steps_to d = nat_abs (along_of d 0) + nat_abs (along_of d 1) + nat_abs (along_of d 2)

unfoldable pub staircase_of : List ℤ → List Step
staircase_of d = map (step_at d) (range (steps_to d))

-- what stands at places past a staircase's end
abbrev pub no_step : Step
no_step = record { axis = 0; forward = false }

-- a place that so many steps can reach
pub record Reached (p : List ℤ) : Type 0 where
  pub each : (a : ℕ) → a < 3 → nat_abs (along_of p a) ≤ 96
