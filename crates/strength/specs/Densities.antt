-- The densities at a site, in lattice units.
use Rattle.std.specs.Prelude.{ℕ, suc, ◌<◌, List, Float}
use Rattle.std.specs.Coded.{Unit-prop, le_prop}
use Rattle.std.specs.Float.{binary64}
use Rattle.std.specs.Float.Ieee.{div, neg, of_bits}
use Rattle.mat.specs.declared.Su3.{Su3}
use Rattle.complex.specs.Rounded.{◌⊞◌, ◌⊟◌, ◌⊠◌, fzero}
use Rattle.mat.specs.Matrix.{re_tr}
use Rattle.mat.specs.Product.{mul_of}
use Rattle.links.specs.Field.{Field}
use Rattle.strength.specs.declared.Density.{Density}
use Rattle.strength.specs.Clover.{strength_of}

-- Re Tr a·b
unfoldable pub trace_product : Su3 → Su3 → Float
trace_product a b = re_tr (mul_of a b)

-- −Tr F_μν²
unfoldable pub plane_density : List ℕ → Field → ℕ → ℕ → ℕ → Float
plane_density d U n mu nu = neg (trace_product (strength_of d U n mu nu) (strength_of d U n mu nu))

-- −Tr F_0i² for the axis i of space: 0 is x
unfoldable pub electric_of : List ℕ → Field → ℕ → ℕ → Float
electric_of d U n axis = plane_density d U n 0 (suc axis)

-- −Σ Tr F_μν² over the six planes, from +0
unfoldable pub action_density_of : List ℕ → Field → ℕ → Float
action_density_of d U n = fzero ⊞ e 0 1 ⊞ e 0 2 ⊞ e 0 3 ⊞ e 1 2 ⊞ e 1 3 ⊞ e 2 3
  where
    e : ℕ → ℕ → Float
    e mu nu = plane_density d U n mu nu

abbrev pub fpi : Float
fpi = of_bits binary64 0x4009_21fb_5444_2d18

-- 8 / ((32 π) π)
unfoldable pub charge_factor : Float
charge_factor = div binary64 (of_bits binary64 0x4020_0000_0000_0000) (of_bits binary64 0x4040_0000_0000_0000 ⊠ fpi ⊠ fpi)

-- (1/32π²) ε_μνρσ Tr F_μν F_ρσ, which is 8 (Tr F_01 F_23 − Tr F_02 F_13 + Tr F_03 F_12) / 32π²
unfoldable pub charge_density_of : List ℕ → Field → ℕ → Float
charge_density_of d U n = charge_factor ⊠ (trace_product (F 0 1) (F 2 3) ⊟ trace_product (F 0 2) (F 1 3) ⊞ trace_product (F 0 3) (F 1 2))
  where
    F : ℕ → ℕ → Su3
    F mu nu = strength_of d U n mu nu

-- ## By kind

unfoldable pub density_of : List ℕ → Field → Density → ℕ → Float
density_of d U Density.Action n = action_density_of d U n
density_of d U Density.Charge n = charge_density_of d U n
density_of d U (Density.Electric axis) n = electric_of d U n axis

-- an axis of space
unfoldable pub InSpace : Density → Type 0
InSpace Density.Action = Unit {0}
InSpace Density.Charge = Unit {0}
InSpace (Density.Electric axis) = axis < 3

pub InSpace-prop : (kind : Density) → IsProp (InSpace kind)
unfolding InSpace
InSpace-prop Density.Action = Unit-prop
InSpace-prop Density.Charge = Unit-prop
InSpace-prop (Density.Electric axis) = le_prop
