-- A matrix with its entries in pairs, as the code sums staples: two complex numbers side by side, real parts first.
use Rattle.std.specs.Prelude.{[], ◌∷◌}
use Rattle.complex.specs.declared.C64.{C64}
use Rattle.mat.specs.declared.Su3.{Su3}
use Rattle.gauge.specs.declared.paired.Pair.{Pair}
use Rattle.gauge.specs.declared.paired.Paired.{Paired}

abbrev pub pair_of : C64 → C64 → Pair
pair_of a b = record { re0 = a.re; re1 = b.re; im0 = a.im; im1 = b.im }

abbrev pub first_of : Pair → C64
first_of p = record { re = p.re0; im = p.im0 }

abbrev pub second_of : Pair → C64
second_of p = record { re = p.re1; im = p.im1 }

-- the matrix of such entries: columns of the first two rows, then the third row
unfoldable pub matrix_of : Paired → Su3
matrix_of s = record {
  m =
      first_of s.c0 ∷ first_of s.c1 ∷ first_of s.c2
      ∷ second_of s.c0 ∷ second_of s.c1 ∷ second_of s.c2
      ∷ first_of s.low ∷ second_of s.low ∷ s.last
      ∷ [];
}
