-- The library's test says what `finite` says.
use Rattle.std.proofs.Common.{◌≡◌, refl}
use Rattle.std.specs.Float.{float_is_finite}
use lib.Ieee.{Float, nan, inf, fin}
use lib.Ieee.Scale.{finite}

pub finite_tested : (x : Float) → float_is_finite x ≡ finite x
unfolding float_is_finite
finite_tested nan = refl
finite_tested (inf s) = refl
finite_tested (fin s m e) = refl
