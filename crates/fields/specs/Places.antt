-- A list by its places, with the numbers of each one after the other; and what the calls put there.
use Rattle.std.specs.Prelude.{ℕ, ◌/◌, ◌%◌, List, [], ◌∷◌, Float}
use Rattle.std.specs.List.{flat_map}
use Rattle.geometry.specs.Range.{range}
use Rattle.geometry.specs.Radix.{volume}
use Rattle.gauge.specs.Field.{link_of}
use Rattle.mat.specs.Numbers.{matrix_numbers}
use Rattle.strength.specs.declared.Density.{Density}
use Rattle.strength.specs.Densities.{density_of}
use Rattle.fields.specs.Calls.{smeared}

-- f 0, f 1, .., f (places - 1)
unfoldable pub placed : (ℕ → List Float) → ℕ → List Float
placed f places = flat_map f (range places)

-- a smeared link; the links stand by direction, then site
unfoldable pub link_numbers : List ℕ → List Float → Float → ℕ → List Float
link_numbers d l rho k = matrix_numbers (smeared d (link_of d l) rho (k / volume d) (k % volume d))

-- a density at a site
unfoldable pub density_numbers : List ℕ → List Float → Density → ℕ → List Float
density_numbers d l kind n = density_of d (link_of d l) kind n ∷ []
