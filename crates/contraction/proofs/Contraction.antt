-- The contraction, an order of rows at a time.
use mathlib.Core.Path.{◌≡◌, refl}
use lib.Ieee.{neg}
use Rattle.complex.specs.Rounded.{fone}
use Rattle.complex.specs.Complex.{czero}
use Rattle.mat.specs.declared.Su3.{Su3}
use Rattle.mat.specs.Unitary.{row_of, rows_of}
use Rattle.contraction.specs.Epsilon.{epsilon_of, six_of}

pub epsilon_sixes : (a b c : Su3)
    → six_of
    (six_of
    (six_of
    (six_of
    (six_of
    (six_of czero (row_of a 0) (row_of b 1) (row_of c 2) fone)
    (row_of a 1) (row_of b 2) (row_of c 0) fone)
    (row_of a 2) (row_of b 0) (row_of c 1) fone)
    (row_of a 0) (row_of b 2) (row_of c 1) (neg fone))
    (row_of a 2) (row_of b 1) (row_of c 0) (neg fone))
    (row_of a 1) (row_of b 0) (row_of c 2) (neg fone)
    ≡ epsilon_of a b c
unfolding six_of epsilon_of row_of rows_of
epsilon_sixes a b c = refl
