use Rattle.std.proofs.Common.{refl}
use Rattle.complex.specs.Constants.{ConstantsAre}

pub constants_are : ConstantsAre
constants_are = record { zero = refl; one = refl; i = refl }
