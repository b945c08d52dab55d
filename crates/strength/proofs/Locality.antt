-- A clover, and so a density, depends on the clover's links alone.
use Prim.Native.Nat.{ℕ, suc, ◌<◌}
use mathlib.Core.List.{List}
use mathlib.Core.Path.{◌≡◌}
use native.Mathlib.Omega.{arith}
use Rattle.links.specs.Field.{Field}
use Rattle.gauge.specs.Plaquette.{plaquette_of}
use Rattle.strength.specs.declared.Density.{Density}
use Rattle.strength.specs.Clover.{clover_of, strength_of}
use Rattle.strength.specs.Densities.{plane_density, electric_of, action_density_of, charge_density_of, density_of}
use Rattle.strength.specs.Claims.{SameClover, SameClovers, SameFor, CloverIsLocal, DensityIsLocal}

pub clover_is_local : CloverIsLocal
unfolding clover_of plaquette_of
clover_is_local d U W n mu nu s =
    rw (s.here.0, s.here.1, s.right, s.above, s.left.0, s.left.1, s.below.0, s.below.1, s.above_left, s.below_left.0, s.below_left.1, s.below_right)

strength_is_local : (d : List ℕ) (U W : Field) (n mu nu : ℕ) → SameClover d U W n mu nu → strength_of d U n mu nu ≡ strength_of d W n mu nu
unfolding strength_of
strength_is_local d U W n mu nu s = rw (clover_is_local d U W n mu nu s)

plane_is_local : (d : List ℕ) (U W : Field) (n mu nu : ℕ) → SameClover d U W n mu nu → plane_density d U n mu nu ≡ plane_density d W n mu nu
unfolding plane_density
plane_is_local d U W n mu nu s = rw (strength_is_local d U W n mu nu s)

module _ (d : List ℕ) (U W : Field) (n : ℕ) (same : SameClovers d U W n) where
  p : (mu nu : ℕ) → mu < nu → nu < 4 → plane_density d U n mu nu ≡ plane_density d W n mu nu
  p mu nu a b = plane_is_local d U W n mu nu (same mu nu a b)

  f : (mu nu : ℕ) → mu < nu → nu < 4 → strength_of d U n mu nu ≡ strength_of d W n mu nu
  f mu nu a b = strength_is_local d U W n mu nu (same mu nu a b)

  action_is_local : action_density_of d U n ≡ action_density_of d W n
  unfolding action_density_of
  action_is_local =
      rw (p 0 1 (omega arith) (omega arith), p 0 2 (omega arith) (omega arith), p 0 3 (omega arith) (omega arith), p 1 2 (omega arith) (omega arith), p 1 3 (omega arith) (omega arith), p 2 3 (omega arith) (omega arith))

  charge_is_local : charge_density_of d U n ≡ charge_density_of d W n
  unfolding charge_density_of
  charge_is_local =
      rw (f 0 1 (omega arith) (omega arith), f 0 2 (omega arith) (omega arith), f 0 3 (omega arith) (omega arith), f 1 2 (omega arith) (omega arith), f 1 3 (omega arith) (omega arith), f 2 3 (omega arith) (omega arith))

pub density_is_local : DensityIsLocal
unfolding SameFor density_of electric_of
density_is_local d U W Density.Action n same = action_is_local d U W n same
density_is_local d U W Density.Charge n same = charge_is_local d U W n same
density_is_local d U W (Density.Electric axis) n same = plane_is_local d U W n 0 (suc axis) same
