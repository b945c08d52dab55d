-- What is proved of staircases.
use Rattle.std.specs.Prelude.{ℕ, ◌-◌, ◌<◌, ◌≤◌, true, cond, List, [], ◌∷◌, ◌≡◌, ℤ, pos, negsuc, ◌+ℤ◌, length, set}
use Rattle.stairs.specs.declared.Step.{Step}
use Rattle.stairs.specs.Line.{along_of}
use Rattle.stairs.specs.Staircase.{differs, best_of, place_at, step_at, steps_to, staircase_of}

-- the place that steps lead to: 1 up or down along an axis of space
unfoldable pub led_by : List ℤ → List Step → List ℤ
led_by p [] = p
led_by p (s ∷ steps) = led_by (set p (s.axis - 1) (along_of p (s.axis - 1) +ℤ cond s.forward (pos 1) (negsuc 0))) steps

-- a staircase has |dx| + |dy| + |dz| steps along axes of space, each where something is left, and they lead from the origin to the offset
pub record StaircaseArrives : Type 0 where
  pub count : (d : List ℤ) → length (staircase_of d) ≡ steps_to d
  pub axes : (d : List ℤ) (i : ℕ) → (1 ≤ (step_at d i).axis) × ((step_at d i).axis ≤ 3)
  pub left : (d : List ℤ) (i : ℕ) → i < steps_to d → differs (along_of (place_at d i) (best_of (place_at d i) d)) (along_of d (best_of (place_at d i) d)) ≡ true
  pub arrives : (d : List ℤ) → length d ≡ 3 → led_by (pos 0 ∷ pos 0 ∷ pos 0 ∷ []) (staircase_of d) ≡ d
