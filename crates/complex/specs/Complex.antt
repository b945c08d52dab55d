-- Complex numbers of two f64.
use Rattle.std.specs.Prelude.{Bool, ◌&&◌, Float}
use Rattle.std.specs.Float.{nan}
use Rattle.std.specs.Float.Ieee.{neg}
use Rattle.std.specs.Float.Ieee.Scale.{finite}
use Rattle.complex.specs.declared.C64.{C64}
use Rattle.complex.specs.Rounded.{◌⊞◌, ◌⊟◌, ◌⊠◌, fzero, fone}

-- x + i y
abbrev pub complex_of : Float → Float → C64
complex_of x y = record { re = x; im = y }

abbrev pub czero : C64
czero = complex_of fzero fzero

abbrev pub cone : C64
cone = complex_of fone fzero

-- what the logic reads past the end of an array of complex numbers
abbrev pub cnan : C64
cnan = complex_of nan nan

unfoldable pub conj_of : C64 → C64
conj_of a = record { re = a.re; im = neg a.im }

unfoldable pub norm_sqr : C64 → Float
norm_sqr a = a.re ⊠ a.re ⊞ a.im ⊠ a.im

unfoldable pub cscale : C64 → Float → C64
cscale a s = record { re = a.re ⊠ s; im = a.im ⊠ s }

unfoldable pub cadd : C64 → C64 → C64
cadd a b = record { re = a.re ⊞ b.re; im = a.im ⊞ b.im }

unfoldable pub csub : C64 → C64 → C64
csub a b = record { re = a.re ⊟ b.re; im = a.im ⊟ b.im }

unfoldable pub cmul : C64 → C64 → C64
cmul a b = record {
  re = a.re ⊠ b.re ⊟ a.im ⊠ b.im;
  im = a.re ⊠ b.im ⊞ a.im ⊠ b.re;
}

unfoldable pub cneg : C64 → C64
cneg a = record { re = neg a.re; im = neg a.im }

-- a·b − c·d
unfoldable pub minor : C64 → C64 → C64 → C64 → C64
minor a b c d = csub (cmul a b) (cmul c d)

-- x·a + y·b
unfoldable pub combination : C64 → C64 → C64 → C64 → C64
combination x a y b = cadd (cmul x a) (cmul y b)

-- neither part is an infinity or a NaN
unfoldable pub finite_entry : C64 → Bool
finite_entry a = finite a.re && finite a.im
