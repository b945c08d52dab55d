-- What the loops over a matrix leave.
use Rattle.std.proofs.Common.{◌≡◌, refl, sym, ℕ, ◌+◌, List, length, add-one}
use Rattle.std.specs.List.{list_all}
use Rattle.folds.proofs.Lists.{all_listed}
use Rattle.complex.specs.Complex.{finite_entry, cnan}
use Rattle.folds.specs.Folds.{fill}
use Rattle.complex.specs.declared.C64.{C64}
use Rattle.complex.specs.Rounded.{inverse, as_float}
use Rattle.mat.specs.declared.Su3.{Su3}
use Rattle.mat.specs.Matrix.{each, zeros, identity_of, scale_of, add_of, finite_matrix}
use Rattle.mat.specs.Product.{mul_of}
use Rattle.mat.specs.Exponential.{term_of, series_of}

-- ## a matrix filled entry by entry
pub fill_each : (f : ℕ → C64) {p : List C64} (n : ℕ) → n ≡ 9 → p ≡ fill f zeros n → record { m = p } ≡ each f
unfolding fill
fill_each f n h e = rw (e, h)

-- ## a test of each entry
pub finite_nine : (u : Su3) → length u.m ≡ 9 → list_all finite_entry u.m ≡ finite_matrix u
unfolding finite_matrix
finite_nine u n = sym (rw (← n) (all_listed finite_entry u.m cnan))

-- ## the exponential's series
pub term_none : (q : Su3) → term_of q 0 ≡ identity_of
unfolding term_of
term_none q = refl

pub term_next : (q : Su3) (n : ℕ) → term_of q (n + 1) ≡ scale_of (mul_of (term_of q n) q) (inverse (as_float (n + 1)))
unfolding term_of
term_next q n = rw add-one

pub series_none : (q : Su3) → series_of q 0 ≡ identity_of
unfolding series_of
series_none q = refl

pub series_next : (q : Su3) (n : ℕ) → series_of q (n + 1) ≡ add_of (series_of q n) (term_of q (n + 1))
unfolding series_of
series_next q n = rw add-one

pub ruleset exponential = (term_none, term_next, series_none, series_next)
