-- Which links a clover and a density depend on, that the action density begins with its electric half, and the charge's factor.
use Rattle.std.specs.Prelude.{ℕ, suc, ◌<◌, List, ◌≡◌, Float}
use Rattle.std.specs.Float.{binary64}
use Rattle.std.specs.Float.Ieee.{of_bits}
use Rattle.complex.specs.Rounded.{◌⊞◌, fzero}
use Rattle.geometry.specs.Steps.{fwd_of, bwd_of}
use Rattle.links.specs.Field.{Field}
use Rattle.strength.specs.declared.Density.{Density}
use Rattle.strength.specs.Clover.{clover_of}
use Rattle.strength.specs.Densities.{electric_of, plane_density, action_density_of, charge_factor, density_of}

-- two fields agree on the twelve links of the clover of μ and ν at n
pub record SameClover (d : List ℕ) (U W : Field) (n mu nu : ℕ) : Type 0 where
  pub here : (U mu n ≡ W mu n) × (U nu n ≡ W nu n)
  pub right : U nu (fwd_of d n mu) ≡ W nu (fwd_of d n mu)
  pub above : U mu (fwd_of d n nu) ≡ W mu (fwd_of d n nu)
  pub left : (U mu (bwd_of d n mu) ≡ W mu (bwd_of d n mu)) × (U nu (bwd_of d n mu) ≡ W nu (bwd_of d n mu))
  pub below : (U mu (bwd_of d n nu) ≡ W mu (bwd_of d n nu)) × (U nu (bwd_of d n nu) ≡ W nu (bwd_of d n nu))
  pub above_left : U mu (bwd_of d (fwd_of d n nu) mu) ≡ W mu (bwd_of d (fwd_of d n nu) mu)
  pub below_left : (U mu (bwd_of d (bwd_of d n mu) nu) ≡ W mu (bwd_of d (bwd_of d n mu) nu)) × (U nu (bwd_of d (bwd_of d n mu) nu) ≡ W nu (bwd_of d (bwd_of d n mu) nu))
  pub below_right : U nu (fwd_of d (bwd_of d n nu) mu) ≡ W nu (fwd_of d (bwd_of d n nu) mu)

-- then their clovers are the same
abbrev pub CloverIsLocal : Type 0
CloverIsLocal = (d : List ℕ) (U W : Field) (n mu nu : ℕ) → SameClover d U W n mu nu → clover_of d U n mu nu ≡ clover_of d W n mu nu

-- in all six planes
abbrev pub SameClovers : List ℕ → Field → Field → ℕ → Type 0
SameClovers d U W n = (mu nu : ℕ) → mu < nu → nu < 4 → SameClover d U W n mu nu

-- two fields agree on the clovers that a density reads at n
unfoldable pub SameFor : List ℕ → Field → Field → Density → ℕ → Type 0
SameFor d U W Density.Action n = SameClovers d U W n
SameFor d U W Density.Charge n = SameClovers d U W n
SameFor d U W (Density.Electric axis) n = SameClover d U W n 0 (suc axis)

-- then the density is the same there
abbrev pub DensityIsLocal : Type 0
DensityIsLocal = (d : List ℕ) (U W : Field) (kind : Density) (n : ℕ) → SameFor d U W kind n → density_of d U kind n ≡ density_of d W kind n

-- ## The electric half of the action density

-- the three electric densities, summed from +0
abbrev pub electric_sum : List ℕ → Field → ℕ → Float
electric_sum d U n = fzero ⊞ electric_of d U n 0 ⊞ electric_of d U n 1 ⊞ electric_of d U n 2

-- The action density first adds up the three electric densities, from +0 and in the order x, y, z, and goes on with the planes of space, one by one. No law says that
-- it is its electric half plus its magnetic half, for f64 sums depend on their order: for t = 2⁻⁵³, 1 + t + t is 1, but 1 + (t + t) is the next f64.
abbrev pub ActionBeginsElectric : Type 0
ActionBeginsElectric = (d : List ℕ) (U : Field) (n : ℕ)
    → action_density_of d U n ≡ electric_sum d U n ⊞ plane_density d U n 1 2 ⊞ plane_density d U n 1 3 ⊞ plane_density d U n 2 3

-- ## The charge's factor

abbrev pub FactorBits : Type 0
FactorBits = charge_factor ≡ of_bits binary64 0x3f99_f02f_6222_c720
