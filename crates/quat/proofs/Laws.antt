-- The rows of a subgroup.
use Prim.Native.Nat.{ℕ, zero, suc, ◌+◌, ◌/◌, ◌<◌}
use mathlib.Core.Path.{◌≡◌, refl}
use native.Mathlib.Omega.{arith}
use Rattle.quat.specs.Subgroup.{subgroup_of}

pub pair_is : (g : ℕ) → g < 3 → record { i = g / 2; j = (g + 3) / 2 } ≡ subgroup_of g
unfolding subgroup_of
pair_is zero h = refl
pair_is (suc zero) h = refl
pair_is (suc (suc zero)) h = refl
pair_is (suc (suc (suc g))) h = absurd (omega arith)
