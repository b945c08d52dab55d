-- Six matrices as the array of numbers in which a host gets them: plane by plane, each row by row, real first.
use Rattle.std.specs.Prelude.{List, ◌++◌, Float}
use Rattle.mat.specs.declared.Su3.{Su3}
use Rattle.mat.specs.Matrix.{nth_matrix}
use Rattle.mat.specs.Numbers.{matrix_numbers}

unfoldable pub plane_numbers : List Su3 → List Float
plane_numbers f =
    matrix_numbers (nth_matrix f 0) ++ matrix_numbers (nth_matrix f 1) ++ matrix_numbers (nth_matrix f 2)
    ++ matrix_numbers (nth_matrix f 3) ++ matrix_numbers (nth_matrix f 4) ++ matrix_numbers (nth_matrix f 5)
