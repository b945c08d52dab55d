-- The order of the action density's sum, and the charge's factor by computing.
use mathlib.Core.Path.{refl}
use lib.Ieee.{mul, div, of_bits}
use Rattle.strength.specs.Densities.{electric_of, action_density_of, charge_factor}
use Rattle.strength.specs.Claims.{ActionBeginsElectric, FactorBits}

pub action_begins_electric : ActionBeginsElectric
unfolding action_density_of electric_of
action_begins_electric d U n = refl

pub factor_bits : FactorBits
unfolding charge_factor mul div of_bits
factor_bits = refl
