-- A matrix by its rows, and its projection onto SU(3) by Gram and Schmidt.
use Rattle.std.specs.Prelude.{ℕ, ◌+◌, ◌*◌, List, [], ◌∷◌}
use Rattle.complex.specs.declared.Row.{Row}
use Rattle.mat.specs.declared.Su3.{Su3}
use Rattle.mat.specs.Matrix.{ent}
use Rattle.complex.specs.Row.{conj_dot, row_sub_mul, unit_row, cross_conj}

-- row i
unfoldable pub row_of : Su3 → ℕ → Row
row_of a i = record { c0 = ent a (3 * i); c1 = ent a (3 * i + 1); c2 = ent a (3 * i + 2) }

unfoldable pub rows_of : Su3 → List Row
rows_of a = row_of a 0 ∷ row_of a 1 ∷ row_of a 2 ∷ []

-- the matrix with the rows u, v, w
unfoldable pub of_rows : Row → Row → Row → Su3
of_rows u v w = record {
  m = u.c0 ∷ u.c1 ∷ u.c2 ∷ v.c0 ∷ v.c1 ∷ v.c2 ∷ w.c0 ∷ w.c1 ∷ w.c2 ∷ [];
}

-- the unit row along v − ⟨u, v⟩ u, for a unit row u
unfoldable pub ortho_row : Row → Row → Row
ortho_row u v = unit_row (row_sub_mul v (conj_dot u v) u)

-- the matrix of SU(3) that two rows give: the first made a unit row, the second made a unit row orthogonal to it, and the conjugate of their cross product
unfoldable pub unitary_of : Row → Row → Su3
unitary_of a b =
    let u = unit_row a in
    let v = ortho_row u b in
    of_rows u v (cross_conj u v)

-- by its first two rows: the third is not read
unfoldable pub reunitarize_of : Su3 → Su3
reunitarize_of a = unitary_of (row_of a 0) (row_of a 1)
