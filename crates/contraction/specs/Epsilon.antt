-- The contraction of three matrices to a colour singlet: ε_abc ε_a'b'c' A_aa' B_bb' C_cc'.
use Rattle.std.specs.Prelude.{ℕ, zero, suc, List, [], ◌∷◌, Float}
use Rattle.std.specs.Float.Ieee.{neg}
use Rattle.complex.specs.declared.C64.{C64}
use Rattle.complex.specs.Rounded.{◌⊠◌, fone}
use Rattle.complex.specs.Complex.{czero, cadd, cmul, cscale}
use Rattle.mat.specs.declared.Su3.{Su3}
use Rattle.complex.specs.declared.Row.{Row}
use Rattle.mat.specs.Matrix.{at}

-- an order of 0, 1, 2 and its sign
pub record Permutation : Type 0 where
  pub a : ℕ
  pub b : ℕ
  pub c : ℕ
  pub sign : Float

-- the even ones, then the odd ones
abbrev pub permutations : List Permutation
permutations =
    record { a = 0; b = 1; c = 2; sign = fone }
    ∷ record { a = 1; b = 2; c = 0; sign = fone }
    ∷ record { a = 2; b = 0; c = 1; sign = fone }
    ∷ record { a = 0; b = 2; c = 1; sign = neg fone }
    ∷ record { a = 2; b = 1; c = 0; sign = neg fone }
    ∷ record { a = 1; b = 0; c = 2; sign = neg fone }
    ∷ []

-- the term of an order of rows p and one of columns q
abbrev pub epsilon_term : Su3 → Su3 → Su3 → Permutation → Permutation → C64
epsilon_term a b c p q = cscale (cmul (cmul (at a p.a q.a) (at b p.b q.b)) (at c p.c q.c)) (p.sign ⊠ q.sign)

-- a sum, and f of each permutation added in turn
abbrev pub sum_over : (Permutation → C64) → C64 → List Permutation → C64
sum_over f s [] = s
sum_over f s (q ∷ qs) = sum_over f (cadd s (f q)) qs

-- for each order of rows in turn, the terms of all orders of columns
abbrev pub sums_over : (Permutation → Permutation → C64) → C64 → List Permutation → C64
sums_over f s [] = s
sums_over f s (p ∷ ps) = sums_over f (sum_over (f p) s permutations) ps

-- 36 terms, from 0
unfoldable pub epsilon_of : Su3 → Su3 → Su3 → C64
epsilon_of a b c = sums_over (epsilon_term a b c) czero permutations

-- ## by rows, as the code has it

-- the entry of a row at a column
abbrev pub in_row : Row → ℕ → C64
in_row r zero = r.c0
in_row r (suc zero) = r.c1
in_row r (suc (suc j)) = r.c2

-- a sum, and the six terms of three rows whose order has the sign p
unfoldable pub six_of : C64 → Row → Row → Row → Float → C64
six_of s a b c p = sum_over (λ q. cscale (cmul (cmul (in_row a q.a) (in_row b q.b)) (in_row c q.c)) (p ⊠ q.sign)) s permutations
