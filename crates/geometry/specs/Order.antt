-- The sites of one parity, in ascending order. Definitions only.
use Rattle.std.specs.Prelude.{ℕ, ◌+◌, ◌*◌, ◌/◌, ◌%◌}
use mathlib.Core.List.{List, filter}
use Rattle.std.proofs.Math.Decide.{ℕ_discrete}
use Rattle.geometry.specs.Range.{range}
use Rattle.geometry.specs.Radix.{volume}
use Rattle.geometry.specs.Steps.{parity_of}

-- all sites of parity p
unfoldable pub sites_of : List ℕ → ℕ → List ℕ
sites_of d p = filter (λ n. ℕ_discrete (parity_of d n) p) (range (volume d))

-- half the sites
unfoldable pub half_of : List ℕ → ℕ
half_of d = volume d / 2

-- The k-th of them, counted from 0: of 2k and 2k + 1 the one of parity p. It holds for k below half the sites.
unfoldable pub nth_of : List ℕ → ℕ → ℕ → ℕ
nth_of d p k = 2 * k + (p + parity_of d (2 * k)) % 2
