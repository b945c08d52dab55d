-- Complex 3×3 matrices by their entries: reading, making, and what works entry by entry.
use Rattle.std.specs.Prelude.{◌≡◌, ℕ, ◌+◌, ◌*◌, Bool, List, [], ◌∷◌, get_or, Float}
use Rattle.folds.specs.Folds.{fold_to, all_below}
use Rattle.complex.specs.declared.C64.{C64}
use Rattle.mat.specs.declared.Su3.{Su3}
use Rattle.complex.specs.Rounded.{◌⊞◌, fzero}
use Rattle.complex.specs.Complex.{czero, cone, cnan, conj_of, norm_sqr, cscale, cadd, csub, cmul, finite_entry, minor}

-- ## Reading and making

-- the entry at row i and column j
abbrev pub at : Su3 → ℕ → ℕ → C64
at u i j = get_or u.m (3 * i + j) cnan

-- the k-th entry, row by row
abbrev pub ent : Su3 → ℕ → C64
ent u k = get_or u.m k cnan

-- the p-th of several matrices; past the end one without entries
abbrev pub nth_matrix : List Su3 → ℕ → Su3
nth_matrix f p = get_or f p (record { m = [] })

-- the matrix with f i j at row i and column j
abbrev pub tabulate : (ℕ → ℕ → C64) → Su3
tabulate f = record { m = f 0 0 ∷ f 0 1 ∷ f 0 2 ∷ f 1 0 ∷ f 1 1 ∷ f 1 2 ∷ f 2 0 ∷ f 2 1 ∷ f 2 2 ∷ [] }

-- the matrix with f k as its k-th entry
abbrev pub each : (ℕ → C64) → Su3
each f = record { m = f 0 ∷ f 1 ∷ f 2 ∷ f 3 ∷ f 4 ∷ f 5 ∷ f 6 ∷ f 7 ∷ f 8 ∷ [] }

-- P i j holds of the entry at row i and column j, each below 3
pub record Table (P : ℕ → ℕ → C64 → Type 0) (u : Su3) : Type 0 where
  pub whole : u ≡ tabulate (at u)
  pub e00 : P 0 0 (at u 0 0)
  pub e01 : P 0 1 (at u 0 1)
  pub e02 : P 0 2 (at u 0 2)
  pub e10 : P 1 0 (at u 1 0)
  pub e11 : P 1 1 (at u 1 1)
  pub e12 : P 1 2 (at u 1 2)
  pub e20 : P 2 0 (at u 2 0)
  pub e21 : P 2 1 (at u 2 1)
  pub e22 : P 2 2 (at u 2 2)

abbrev pub zeros : List C64
zeros = czero ∷ czero ∷ czero ∷ czero ∷ czero ∷ czero ∷ czero ∷ czero ∷ czero ∷ []

-- the matrix of zeros
abbrev pub zero_of : Su3
zero_of = record { m = zeros }

abbrev pub identity_of : Su3
identity_of = record { m = cone ∷ czero ∷ czero ∷ czero ∷ cone ∷ czero ∷ czero ∷ czero ∷ cone ∷ [] }

-- ## Entry by entry

-- conjugate transpose
unfoldable pub dagger_of : Su3 → Su3
dagger_of a = tabulate (λ i j. conj_of (at a j i))

unfoldable pub scale_of : Su3 → Float → Su3
scale_of a s = each (λ k. cscale (ent a k) s)

unfoldable pub add_of : Su3 → Su3 → Su3
add_of a b = each (λ k. cadd (ent a k) (ent b k))

unfoldable pub sub_of : Su3 → Su3 → Su3
sub_of a b = each (λ k. csub (ent a k) (ent b k))

-- ## Numbers of a matrix

unfoldable pub trace_of : Su3 → C64
trace_of a = cadd (cadd (at a 0 0) (at a 1 1)) (at a 2 2)

-- Re Tr a
unfoldable pub re_tr : Su3 → Float
re_tr a = (at a 0 0).re ⊞ (at a 1 1).re ⊞ (at a 2 2).re

-- Frobenius distance squared, summed row by row from +0
unfoldable pub dist_sqr : Su3 → Su3 → Float
dist_sqr a b = fold_to (λ s x. s ⊞ x) fzero (λ k. norm_sqr (csub (ent a k) (ent b k))) 9

-- the determinant, by minors of the first row
unfoldable pub det_of : Su3 → C64
det_of a =
    cadd
    (csub
    (cmul (at a 0 0) (minor (at a 1 1) (at a 2 2) (at a 1 2) (at a 2 1)))
    (cmul (at a 0 1) (minor (at a 1 0) (at a 2 2) (at a 1 2) (at a 2 0))))
    (cmul (at a 0 2) (minor (at a 1 0) (at a 2 1) (at a 1 1) (at a 2 0)))

-- none of the eighteen numbers is an infinity or a NaN
unfoldable pub finite_matrix : Su3 → Bool
finite_matrix u = all_below (λ k. finite_entry (ent u k)) 9
