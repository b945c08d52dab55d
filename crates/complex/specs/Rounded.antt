-- Sum, difference and product of two f64, each rounded once to the nearest, and the numbers that the formulas name.
use Rattle.std.specs.Prelude.{ℕ, Float, pos}
use Rattle.std.specs.Float.{binary64}
use Rattle.std.specs.Float.Ieee.{add, sub, mul, div, of_int, of_bits}

infixl 6 ◌⊞◌
abbrev pub ◌⊞◌ : Float → Float → Float
x ⊞ y = add binary64 x y

infixl 6 ◌⊟◌
abbrev pub ◌⊟◌ : Float → Float → Float
x ⊟ y = sub binary64 x y

infixl 7 ◌⊠◌
abbrev pub ◌⊠◌ : Float → Float → Float
x ⊠ y = mul binary64 x y

-- +0
abbrev pub fzero : Float
fzero = of_bits binary64 0

abbrev pub fone : Float
fone = of_bits binary64 0x3ff0_0000_0000_0000

abbrev pub fhalf : Float
fhalf = of_bits binary64 0x3fe0_0000_0000_0000

abbrev pub fthree : Float
fthree = of_bits binary64 0x4008_0000_0000_0000

-- 1 / x
abbrev pub inverse : Float → Float
inverse x = div binary64 fone x

-- n as an f64
abbrev pub as_float : ℕ → Float
as_float n = of_int binary64 (pos n)
