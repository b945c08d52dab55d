-- Plaquettes, their average and the Wilson action.
use Rattle.std.specs.Prelude.{ℕ, List, Float}
use Rattle.std.specs.Float.{binary64}
use Rattle.std.specs.Float.Ieee.{add, div, of_bits}
use Rattle.folds.specs.Folds.{fold_to}
use Rattle.mat.specs.declared.Su3.{Su3}
use Rattle.complex.specs.Rounded.{◌⊞◌, ◌⊟◌, ◌⊠◌, fzero, fone, fthree, as_float}
use Rattle.mat.specs.Matrix.{re_tr}
use Rattle.mat.specs.Product.{row_row, mul_of, mul_dag_of}
use Rattle.geometry.specs.Radix.{volume}
use Rattle.geometry.specs.Steps.{fwd_of}
use Rattle.links.specs.Field.{Field}

-- U_μ(n) U_ν(f) (U_ν(n) U_μ(g))†, where f is n+μ and g is n+ν
abbrev pub plaquette_at : Field → ℕ → ℕ → ℕ → ℕ → ℕ → Su3
plaquette_at U mu nu n f g = mul_dag_of (mul_of (U mu n) (U nu f)) (mul_of (U nu n) (U mu g))

unfoldable pub plaquette_of : List ℕ → Field → ℕ → ℕ → ℕ → Su3
plaquette_of d U n mu nu = plaquette_at U mu nu n (fwd_of d n mu) (fwd_of d n nu)

-- the real part of the i-th entry on the diagonal of a·b·(c·e)†
abbrev pub diagonal_at : Su3 → Su3 → Su3 → Su3 → ℕ → Float
diagonal_at a b c e i = (row_row (mul_of a b) (mul_of c e) i i).re

-- Re Tr of the six plaquettes at a site, summed from +0
unfoldable pub planes_sum : List ℕ → Field → ℕ → Float
planes_sum d U n = fzero ⊞ p 0 1 ⊞ p 0 2 ⊞ p 0 3 ⊞ p 1 2 ⊞ p 1 3 ⊞ p 2 3
  where
    p : ℕ → ℕ → Float
    p mu nu = re_tr (plaquette_of d U n mu nu)

-- the sum over the first k sites, in order, from +0
abbrev pub sites_sum : List ℕ → Field → ℕ → Float
sites_sum d U k = fold_to (add binary64) fzero (λ n. planes_sum d U n) k

abbrev pub fsix : Float
fsix = of_bits binary64 0x4018_0000_0000_0000

-- ⟨Re Tr U_P⟩ / 3: the sum, divided by (sites · 6) · 3
unfoldable pub average_of : List ℕ → Field → Float
average_of d U = div binary64 (sites_sum d U (volume d)) (as_float (volume d) ⊠ fsix ⊠ fthree)

-- β Σ (1 − Re Tr U_P / 3), by the average: β · 6 · sites · (1 − average)
unfoldable pub action_of : List ℕ → Field → Float → Float
action_of d U beta = beta ⊠ fsix ⊠ as_float (volume d) ⊠ (fone ⊟ average_of d U)
