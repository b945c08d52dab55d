-- What each call answers, and what the list that it fills holds afterwards.
use Rattle.std.specs.Prelude.{ℕ, List, map, ◌≡◌, Float, length, Option, Result}
use Rattle.rows.specs.declared.Refusal.{Refusal}
use Rattle.rows.specs.Refusals.{first_refusal, finally, answered, unless}
use Rattle.rows.specs.Finite.{bad_numbers}
use Rattle.mat.specs.declared.Su3.{Su3}
use Rattle.geometry.specs.Range.{range}
use Rattle.geometry.specs.Radix.{volume}
use Rattle.links.specs.Field.{Field}
use Rattle.gauge.specs.Field.{link_of, list_of}
use Rattle.field_checks.specs.Refusals.{plane_rows, field_site_rows}
use Rattle.field_checks.specs.Situations.{bad_matrix, bad_six}
use Rattle.strength.specs.declared.Density.{Density}
use Rattle.strength.specs.Clover.{clover_of, strengths_of}
use Rattle.strength.specs.Densities.{density_of}
use Rattle.stout.specs.Stout.{stout_of}
use Rattle.fields.specs.Situations.{stout_rows, smear_rows, density_rows}

-- ## Matrices

unfoldable pub clover_call : List ℕ → ℕ → ℕ → ℕ → List Float → Result Su3 Refusal
clover_call d n mu nu l =
    let u = clover_of d (link_of d l) n mu nu in
    answered (finally (first_refusal (plane_rows d (length l) n mu nu)) (bad_matrix u, Refusal.NotFinite)) u

unfoldable pub strength_call : List ℕ → ℕ → List Float → Result (List Su3) Refusal
strength_call d n l =
    let f = strengths_of d (link_of d l) n in
    answered (finally (first_refusal (field_site_rows d (length l) n)) (bad_six f, Refusal.NotFinite)) f

-- the smeared field: every link from the unsmeared ones, with twelve terms
abbrev pub smeared : List ℕ → Field → Float → Field
smeared d U rho mu n = stout_of d U 12 rho n mu

unfoldable pub stout_call : List ℕ → ℕ → ℕ → Float → List Float → Result Su3 Refusal
stout_call d n mu rho l =
    let u = smeared d (link_of d l) rho mu n in
    answered (finally (first_refusal (stout_rows d (length l) n mu)) (bad_matrix u, Refusal.NotFinite)) u

-- ## Lists: where a call is refused, the list stays

pub record Filled (refusal : Option Refusal) (new old : List Float) (r : Result (Unit {0}) Refusal) (exit : List Float) : Type 0 where
  pub answer : r ≡ answered refusal tt
  pub list : exit ≡ unless refusal new old

-- every link of the smeared field
unfoldable pub smeared_list : List ℕ → Float → List Float → List Float
smeared_list d rho l = list_of d (smeared d (link_of d l) rho)

unfoldable pub smear_refusal : List ℕ → Float → List Float → List Float → Option Refusal
smear_refusal d rho l old = finally (first_refusal (smear_rows d (length l) (length old))) (bad_numbers (smeared_list d rho l), Refusal.NotFinite)

abbrev pub SmearCall : List ℕ → Float → List Float → List Float → Result (Unit {0}) Refusal → List Float → Type 0
SmearCall d rho l old r exit = Filled (smear_refusal d rho l old) (smeared_list d rho l) old r exit

-- the density at every site
unfoldable pub density_list : List ℕ → Density → List Float → List Float
density_list d kind l = map (density_of d (link_of d l) kind) (range (volume d))

unfoldable pub density_refusal : List ℕ → Density → List Float → List Float → Option Refusal
density_refusal d kind l old = finally (first_refusal (density_rows d (length l) (length old) kind)) (bad_numbers (density_list d kind l), Refusal.NotFinite)

abbrev pub DensityCall : List ℕ → Density → List Float → List Float → Result (Unit {0}) Refusal → List Float → Type 0
DensityCall d kind l old r exit = Filled (density_refusal d kind l old) (density_list d kind l) old r exit
