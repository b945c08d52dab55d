-- Lines along time, and the Polyakov loop.
use Rattle.std.specs.Prelude.{ℕ, zero, suc, List, ◌∷◌, get_or, drop}
use Rattle.folds.specs.Folds.{fold_to}
use Rattle.complex.specs.declared.C64.{C64}
use Rattle.mat.specs.declared.Su3.{Su3}
use Rattle.complex.specs.Rounded.{◌⊠◌, fthree, inverse, as_float}
use Rattle.complex.specs.Complex.{czero, cadd, cscale}
use Rattle.mat.specs.Matrix.{identity_of, trace_of}
use Rattle.mat.specs.Product.{mul_of}
use Rattle.geometry.specs.Radix.{volume, coords_of, index_of}
use Rattle.geometry.specs.Steps.{fwd_of}
use Rattle.links.specs.Field.{Field}

-- the site t steps on along time
unfoldable pub later_of : List ℕ → ℕ → ℕ → ℕ
later_of d n zero = n
later_of d n (suc t) = fwd_of d (later_of d n t) 0

-- 1 · U_0(n) · U_0(n+1) · .., t links
unfoldable pub time_line_of : List ℕ → Field → ℕ → ℕ → Su3
time_line_of d U n zero = identity_of
time_line_of d U n (suc t) = mul_of (time_line_of d U n t) (U 0 (later_of d n t))

-- the extents of space
abbrev pub space : List ℕ → List ℕ
space d = drop 1 d

-- the site at time t and the k-th place of space, x fastest
unfoldable pub site_at : List ℕ → ℕ → ℕ → ℕ
site_at d t k = index_of d (t ∷ coords_of (space d) k)

-- the trace of the line around time at the k-th place
unfoldable pub polyakov_trace : List ℕ → Field → ℕ → C64
polyakov_trace d U k = trace_of (time_line_of d U (site_at d 0 k) (get_or d 0 0))

-- ⟨Tr Π U_0⟩ / 3 over all places of space: the sum from 0, times 1 / (3 · places)
unfoldable pub polyakov_of : List ℕ → Field → C64
polyakov_of d U = cscale (fold_to cadd czero (λ k. polyakov_trace d U k) (volume (space d))) (inverse (fthree ⊠ as_float (volume (space d))))
