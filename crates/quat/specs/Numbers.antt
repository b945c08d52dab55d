-- Complex 2×2 matrices as eight numbers, row by row, real first; and quaternions as four.
use Rattle.std.specs.Prelude.{List, [], ◌∷◌, get_or, Float}
use Rattle.std.specs.Float.{nan}
use Rattle.complex.specs.Numbers.{pair_at}
use Rattle.quat.specs.declared.Mat2.{Mat2}
use Rattle.quat.specs.declared.Quat.{Quat}

unfoldable pub block_in : List Float → Mat2
block_in a = record { m00 = pair_at a 0; m01 = pair_at a 2; m10 = pair_at a 4; m11 = pair_at a 6 }

unfoldable pub quat_in : List Float → Quat
quat_in a = record { a0 = get_or a 0 nan; a1 = get_or a 1 nan; a2 = get_or a 2 nan; a3 = get_or a 3 nan }

unfoldable pub block_numbers : Mat2 → List Float
block_numbers w =
    w.m00.re ∷ w.m00.im ∷ w.m01.re ∷ w.m01.im ∷ w.m10.re ∷ w.m10.im ∷ w.m11.re ∷ w.m11.im ∷ []

unfoldable pub quat_numbers : Quat → List Float
quat_numbers q = q.a0 ∷ q.a1 ∷ q.a2 ∷ q.a3 ∷ []
