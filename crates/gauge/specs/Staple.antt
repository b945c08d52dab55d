-- The staples around a link: the sum A for which the local action is −(β/3) Re Tr(U_μ(n) A).
use Rattle.std.specs.Prelude.{ℕ, zero, suc, ◌<◌, cond, List, ◌≡◌, eqb}
use Rattle.mat.specs.declared.Su3.{Su3}
use Rattle.mat.specs.Matrix.{zero_of, add_of, dagger_of}
use Rattle.mat.specs.Product.{mul_of, mul_dag_of, dag_mul_of}
use Rattle.geometry.specs.Radix.{volume}
use Rattle.geometry.specs.Shape.{Shape}
use Rattle.geometry.specs.Steps.{fwd_of, bwd_of, parity_of}
use Rattle.links.specs.Field.{Field}

-- U_ν(f) U_μ†(u) U_ν†(n), where f is n+μ and u is n+ν
abbrev pub upper_at : Field → ℕ → ℕ → ℕ → ℕ → ℕ → Su3
upper_at U mu nu n f u = mul_dag_of (mul_dag_of (U nu f) (U mu u)) (U nu n)

-- U_ν†(s) U_μ†(b) U_ν(b), where b is n−ν and s is n+μ−ν
abbrev pub lower_at : Field → ℕ → ℕ → ℕ → ℕ → Su3
lower_at U mu nu b s = mul_of (dag_mul_of (U nu s) (dagger_of (U mu b))) (U nu b)

-- a, and then both staples in the plane of μ and ν
unfoldable pub add_staples : List ℕ → Field → ℕ → ℕ → ℕ → Su3 → Su3
add_staples d U n mu nu a =
    add_of
    (add_of a (upper_at U mu nu n (fwd_of d n mu) (fwd_of d n nu)))
    (lower_at U mu nu (bwd_of d n nu) (bwd_of d (fwd_of d n mu) nu))

-- the staples in the planes of the directions below k, μ left out, from the zero matrix
unfoldable pub staples_to : List ℕ → Field → ℕ → ℕ → ℕ → Su3
staples_to d U n mu zero = zero_of
staples_to d U n mu (suc nu) = cond (eqb nu mu) (staples_to d U n mu nu) (add_staples d U n mu nu (staples_to d U n mu nu))

unfoldable pub staple_of : List ℕ → Field → ℕ → ℕ → Su3
staple_of d U n mu = staples_to d U n mu 4

-- ## Which links a staple reads

-- two fields agree on the links of the six staples around U_μ(n)
pub record SameAround (d : List ℕ) (U W : Field) (n mu : ℕ) : Type 0 where
  pub ahead : (nu : ℕ) → nu < 4 → (nu ≡ mu → ⊥) → U nu (fwd_of d n mu) ≡ W nu (fwd_of d n mu)
  pub above : (nu : ℕ) → nu < 4 → (nu ≡ mu → ⊥) → U mu (fwd_of d n nu) ≡ W mu (fwd_of d n nu)
  pub here : (nu : ℕ) → nu < 4 → (nu ≡ mu → ⊥) → U nu n ≡ W nu n
  pub corner : (nu : ℕ) → nu < 4 → (nu ≡ mu → ⊥) → U nu (bwd_of d (fwd_of d n mu) nu) ≡ W nu (bwd_of d (fwd_of d n mu) nu)
  pub below : (nu : ℕ) → nu < 4 → (nu ≡ mu → ⊥) → U mu (bwd_of d n nu) ≡ W mu (bwd_of d n nu)
  pub behind : (nu : ℕ) → nu < 4 → (nu ≡ mu → ⊥) → U nu (bwd_of d n nu) ≡ W nu (bwd_of d n nu)

-- then the staples are the same
abbrev pub StapleIsLocal : Type 0
StapleIsLocal = (d : List ℕ) (U W : Field) (n mu : ℕ) → SameAround d U W n mu → staple_of d U n mu ≡ staple_of d W n mu

-- two fields agree on every link but those of direction μ at sites of parity p
abbrev pub SameOff : List ℕ → ℕ → ℕ → Field → Field → Type 0
SameOff d mu p U W = (nu a : ℕ) → nu < 4 → a < volume d → (nu ≡ mu → parity_of d a ≡ p → ⊥) → U nu a ≡ W nu a

-- around a link of direction μ at a site of parity p there is none of these
abbrev pub NoneAround : Type 0
NoneAround = (d : List ℕ) → Shape d → (mu p : ℕ) (U W : Field) → mu < 4 → SameOff d mu p U W → (n : ℕ) → n < volume d → parity_of d n ≡ p → SameAround d U W n mu
