-- The exponential of an anti-Hermitian traceless matrix: a sum of its series, projected onto SU(3).
use Rattle.std.specs.Prelude.{ℕ, zero, suc}
use Rattle.mat.specs.declared.Su3.{Su3}
use Rattle.complex.specs.Rounded.{inverse, as_float}
use Rattle.mat.specs.Matrix.{identity_of, scale_of, add_of}
use Rattle.mat.specs.Product.{mul_of}
use Rattle.mat.specs.Unitary.{reunitarize_of}

-- qⁿ/n!: the term before it, times q, times 1/n
unfoldable pub term_of : Su3 → ℕ → Su3
term_of q zero = identity_of
term_of q (suc n) = scale_of (mul_of (term_of q n) q) (inverse (as_float (suc n)))

-- 1 + q + .. + qⁿ/n!
unfoldable pub series_of : Su3 → ℕ → Su3
series_of q zero = identity_of
series_of q (suc n) = add_of (series_of q n) (term_of q (suc n))

unfoldable pub exp_of : Su3 → Su3
exp_of q = reunitarize_of (series_of q 12)
