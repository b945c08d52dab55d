-- Means over the samples, and the correlation of the loop with a density.
use Rattle.std.specs.Prelude.{ℕ, ◌+◌, ◌*◌, List, map, Float}
use Rattle.complex.specs.Rounded.{◌⊠◌, as_float}
use Rattle.geometry.specs.Range.{range}
use Rattle.geometry.specs.Radix.{volume}
use Rattle.slices.specs.Slices.{number}
use Rattle.sums.specs.Means.{mean_of, ratio}
use Rattle.flux.specs.declared.FluxAccumulator.{FluxAccumulator}

-- ⟨W⟩
unfoldable pub mean_loop : FluxAccumulator → Float
mean_loop acc = mean_of acc.w acc.samples

-- ⟨W⟩ ⟨S_k⟩
unfoldable pub means_of : FluxAccumulator → ℕ → Float
means_of acc k = mean_loop acc ⊠ mean_of (number acc.s k) acc.samples

-- C_k(r) = ⟨W S_k(r)⟩ / (⟨W⟩ ⟨S_k⟩) at the r-th offset
unfoldable pub correlation_at : FluxAccumulator → ℕ → List Float → ℕ → Float
correlation_at acc k grid r = ratio (as_float acc.samples) (means_of acc k) (number grid (k * volume acc.n + r))

-- at every offset
unfoldable pub correlation_list : FluxAccumulator → ℕ → List Float → List Float
correlation_list acc k grid = map (correlation_at acc k grid) (range (volume acc.n))
