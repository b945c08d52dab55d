-- What follows from the definitions.
use Rattle.std.specs.Prelude.{ℕ, ◌<◌, true, List, ◌≡◌, Float, length, get_or, Result, Ok}
use Rattle.std.specs.Float.{nan}
use Rattle.rows.specs.declared.Refusal.{Refusal}
use Rattle.rows.specs.Finite.{finite_numbers}
use Rattle.bounds.specs.Magnitude.{all_within_two}
use Rattle.geometry.specs.Radix.{volume}
use Rattle.gauge.specs.Field.{Holds, link_of}
use Rattle.strength.specs.declared.Density.{Density}
use Rattle.strength.specs.Densities.{InSpace, density_of}
use Rattle.stout.specs.Stout.{stout_of}
use Rattle.fields.specs.Calls.{density_list, SmearCall, DensityCall}

-- a field whose numbers are from −2 to 2 has finite densities
abbrev pub SmallFieldsAreFinite : Type 0
SmallFieldsAreFinite = (d : List ℕ) (l : List Float) → Holds d l → all_within_two l ≡ true → (kind : Density) → InSpace kind → finite_numbers (density_list d kind l) ≡ true

-- a stout step reads the unsmeared list alone: whatever the second list held, the answer is the same, and what an accepted call leaves there
abbrev pub SmearReadsOneList : Type 0
SmearReadsOneList = (d : List ℕ) (rho : Float) (l old other : List Float) → length old ≡ length other → (r s : Result (Unit {0}) Refusal) (exit exit' : List Float)
    → SmearCall d rho l old r exit → SmearCall d rho l other s exit' → (r ≡ s) × (r ≡ Ok tt → exit ≡ exit')

-- an accepted step leaves a list whose links are what `stout_link` gives, link by link
abbrev pub SmearHoldsStoutLinks : Type 0
SmearHoldsStoutLinks = (d : List ℕ) (rho : Float) (l old : List Float) (r : Result (Unit {0}) Refusal) (exit : List Float) → SmearCall d rho l old r exit → r ≡ Ok tt
    → (mu n : ℕ) → mu < 4 → n < volume d → link_of d exit mu n ≡ stout_of d (link_of d l) 12 rho n mu

-- and an accepted density call one whose numbers are the density, site by site
abbrev pub ListHoldsDensity : Type 0
ListHoldsDensity = (d : List ℕ) (kind : Density) (l old : List Float) (r : Result (Unit {0}) Refusal) (exit : List Float) → DensityCall d kind l old r exit → r ≡ Ok tt
    → (n : ℕ) → n < volume d → get_or exit n nan ≡ density_of d (link_of d l) kind n
