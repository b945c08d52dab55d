-- A complex number in a list of numbers: a pair, real first.
use Rattle.std.specs.Prelude.{ℕ, ◌+◌, List, [], ◌∷◌, get_or, Float}
use Rattle.std.specs.Float.{nan}
use Rattle.complex.specs.declared.C64.{C64}

-- the pair at a place
abbrev pub pair_at : List Float → ℕ → C64
pair_at l p = record { re = get_or l p nan; im = get_or l (p + 1) nan }

unfoldable pub pair_numbers : C64 → List Float
pair_numbers z = z.re ∷ z.im ∷ []
