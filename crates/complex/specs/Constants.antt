-- What the constants of `C64` are.
use Rattle.std.specs.Prelude.{◌≡◌}
use Rattle.complex.specs.declared.TheConstants.C64.{ZERO, ONE, I}
use Rattle.complex.specs.Rounded.{fzero, fone}
use Rattle.complex.specs.Complex.{complex_of, czero, cone}

pub record ConstantsAre : Type 0 where
  pub zero : ZERO ≡ czero
  pub one : ONE ≡ cone
  pub i : I ≡ complex_of fzero fone
