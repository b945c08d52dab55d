-- A matrix as eighteen numbers: row by row, real first.
use Rattle.std.specs.Prelude.{◌*◌, List, [], ◌∷◌, Float}
use Rattle.complex.specs.Numbers.{pair_at}
use Rattle.mat.specs.declared.Su3.{Su3}
use Rattle.mat.specs.Matrix.{each, ent}

-- what eighteen numbers hold
unfoldable pub matrix_in : List Float → Su3
matrix_in a = each (λ k. pair_at a (2 * k))

unfoldable pub matrix_numbers : Su3 → List Float
matrix_numbers u =
    (ent u 0).re ∷ (ent u 0).im ∷ (ent u 1).re ∷ (ent u 1).im ∷ (ent u 2).re ∷ (ent u 2).im
    ∷ (ent u 3).re ∷ (ent u 3).im ∷ (ent u 4).re ∷ (ent u 4).im ∷ (ent u 5).re ∷ (ent u 5).im
    ∷ (ent u 6).re ∷ (ent u 6).im ∷ (ent u 7).re ∷ (ent u 7).im ∷ (ent u 8).re ∷ (ent u 8).im ∷ []
