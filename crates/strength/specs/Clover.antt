-- The clover field strength: the four plaquettes of a plane that touch a site, and what their sum gives.
use Rattle.std.specs.Prelude.{ℕ, List, [], ◌∷◌, Float}
use Rattle.std.specs.Float.{binary64}
use Rattle.std.specs.Float.Ieee.{of_bits}
use Rattle.mat.specs.declared.Su3.{Su3}
use Rattle.mat.specs.Matrix.{add_of, scale_of}
use Rattle.mat.specs.Product.{mul_of, mul_dag_of, dag_mul_of}
use Rattle.mat.specs.Traceless.{traceless_of}
use Rattle.geometry.specs.Steps.{fwd_of, bwd_of}
use Rattle.links.specs.Field.{Field}
use Rattle.gauge.specs.Plaquette.{plaquette_of}

-- ## The leaves, all with the same orientation. The first is the plaquette at n.

-- U_ν(n) U_μ†(w) U_ν†(b) U_μ(b), where b is n−μ and w is n+ν−μ
abbrev pub upper_left : Field → ℕ → ℕ → ℕ → ℕ → ℕ → Su3
upper_left U mu nu n b w = mul_of (mul_dag_of (mul_dag_of (U nu n) (U mu w)) (U nu b)) (U mu b)

-- U_μ†(b) U_ν†(w) U_μ(w) U_ν(c), where b is n−μ, c is n−ν and w is n−μ−ν
abbrev pub lower_left : Field → ℕ → ℕ → ℕ → ℕ → ℕ → Su3
lower_left U mu nu b c w = dag_mul_of (mul_of (U nu w) (U mu b)) (mul_of (U mu w) (U nu c))

-- U_ν†(c) U_μ(c) U_ν(w) U_μ†(n), where c is n−ν and w is n−ν+μ
abbrev pub lower_right : Field → ℕ → ℕ → ℕ → ℕ → ℕ → Su3
lower_right U mu nu n c w = mul_of (dag_mul_of (U nu c) (U mu c)) (mul_dag_of (U nu w) (U mu n))

-- the sum of the four, in this order
unfoldable pub clover_of : List ℕ → Field → ℕ → ℕ → ℕ → Su3
clover_of d U n mu nu =
    add_of
    (add_of
    (add_of (plaquette_of d U n mu nu) (upper_left U mu nu n (bwd_of d n mu) (bwd_of d (fwd_of d n nu) mu)))
    (lower_left U mu nu (bwd_of d n mu) (bwd_of d n nu) (bwd_of d (bwd_of d n mu) nu)))
    (lower_right U mu nu n (bwd_of d n nu) (fwd_of d (bwd_of d n nu) mu))

-- ## The field strength

abbrev pub fquarter : Float
fquarter = of_bits binary64 0x3fd0_0000_0000_0000

-- F_μν: a quarter of the traceless anti-Hermitian part
unfoldable pub strength_of : List ℕ → Field → ℕ → ℕ → ℕ → Su3
strength_of d U n mu nu = scale_of (traceless_of (clover_of d U n mu nu)) fquarter

-- in the six planes
unfoldable pub strengths_of : List ℕ → Field → ℕ → List Su3
strengths_of d U n = F 0 1 ∷ F 0 2 ∷ F 0 3 ∷ F 1 2 ∷ F 1 3 ∷ F 2 3 ∷ []
  where
    F : ℕ → ℕ → Su3
    F mu nu = strength_of d U n mu nu
