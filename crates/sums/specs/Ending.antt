-- The end of an addition: row 10, and then the new sums stored or not.
use Rattle.std.specs.Prelude.{◌≡◌, Bool, ◌||◌, List, [], ◌∷◌, length, drop, replicate, Float, Option, Result}
use Rattle.rows.specs.declared.Refusal.{Refusal}
use Rattle.rows.specs.Refusals.{first_refusal, answered, unless}
use Rattle.rows.specs.Finite.{bad_numbers}
use Rattle.complex.specs.Rounded.{fzero}
use Rattle.field_checks.specs.Situations.{bad_number}

-- as many +0
abbrev pub zeros_like : List Float → List Float
zeros_like l = replicate (length l) fzero

-- 10: a number of the grid, one of the densities' sums or the loops' sum isn't finite
unfoldable pub bad_sums : List Float → Float → List Float → Bool
bad_sums grid w s = bad_numbers grid || bad_numbers s || bad_number w

unfoldable pub sums_refusal : List Float → Float → List Float → Option Refusal
sums_refusal grid w s = first_refusal ((bad_sums grid w s, Refusal.NotFinite) ∷ [])

-- s has the new grid in its second half
pub record SumsStored (w : Float) (sums grid s : List Float) (r : Result (Unit {0}) Refusal) (grid_after after : List Float) : Type 0 where
  pub answer : r ≡ answered (sums_refusal (drop (length grid) s) w sums) tt
  pub list : grid_after ≡ unless (sums_refusal (drop (length grid) s) w sums) (drop (length grid) s) grid
  pub cleared : after ≡ zeros_like s
