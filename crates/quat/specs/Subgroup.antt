-- The three SU(2) subgroups of SU(3): each acts on two rows and the same two columns.
use Rattle.std.specs.Prelude.{ℕ, zero, suc, ◌+◌, ◌*◌, [], ◌∷◌, ltb, set, Option, Result}
use Rattle.rows.specs.declared.Refusal.{Refusal}
use Rattle.rows.specs.Refusals.{first_refusal, answered}
use Rattle.complex.specs.declared.Row.{Row}
use Rattle.mat.specs.declared.Su3.{Su3}
use Rattle.quat.specs.declared.Mat2.{Mat2}
use Rattle.quat.specs.declared.Subgroup.{Subgroup}
use Rattle.complex.specs.Row.{row_combination}
use Rattle.mat.specs.Matrix.{at}
use Rattle.mat.specs.Unitary.{row_of}

-- subgroup 0 acts on rows 0 and 1, subgroup 1 on 0 and 2, subgroup 2 on 1 and 2
unfoldable pub subgroup_of : ℕ → Subgroup
subgroup_of zero = record { i = 0; j = 1 }
subgroup_of (suc zero) = record { i = 0; j = 2 }
subgroup_of (suc (suc g)) = record { i = 1; j = 2 }

-- the refusal of a subgroup's number above 2
unfoldable pub subgroup_refusal : ℕ → Option Refusal
subgroup_refusal g = first_refusal ((ltb 2 g, Refusal.Direction) ∷ [])

-- the entries at rows i, j and columns i, j
unfoldable pub block_of : Su3 → ℕ → ℕ → Mat2
block_of u i j = record { m00 = at u i i; m01 = at u i j; m10 = at u j i; m11 = at u j j }

unfoldable pub sub_block : Su3 → ℕ → Mat2
sub_block u g = block_of u (subgroup_of g).i (subgroup_of g).j

-- a with v as its row i
unfoldable pub with_row : Su3 → ℕ → Row → Su3
with_row a i v = record { m = set (set (set a.m (3 * i) v.c0) (3 * i + 1) v.c1) (3 * i + 2) v.c2 }

-- rows i and j of u left-multiplied by x, both from the rows of u
unfoldable pub left_mul_rows : Su3 → ℕ → ℕ → Mat2 → Su3
left_mul_rows u i j x =
    with_row
    (with_row u i (row_combination x.m00 (row_of u i) x.m01 (row_of u j))) j
    (row_combination x.m10 (row_of u i) x.m11 (row_of u j))

unfoldable pub left_mul_sub : Su3 → ℕ → Mat2 → Su3
left_mul_sub u g x = left_mul_rows u (subgroup_of g).i (subgroup_of g).j x

-- ## Calls

unfoldable pub sub_block_call : Su3 → ℕ → Result Mat2 Refusal
sub_block_call u g = answered (subgroup_refusal g) (sub_block u g)

unfoldable pub left_mul_sub_call : Su3 → ℕ → Mat2 → Result Su3 Refusal
left_mul_sub_call u g x = answered (subgroup_refusal g) (left_mul_sub u g x)
