-- Neighbours and parity. A step along an axis wraps at its end. Definitions only.
use Rattle.std.specs.Prelude.{ℕ, ◌+◌, ◌-◌, ◌%◌, List, [], ◌∷◌, map, get_or, set}
use Rattle.geometry.specs.declared.Neighbours.{Neighbours}
use Rattle.geometry.specs.declared.Spot.{Spot}
use Rattle.geometry.specs.Range.{range}
use Rattle.geometry.specs.Radix.{coords_of, index_of}

-- the site k further along the axis mu
unfoldable pub moved_of : List ℕ → ℕ → ℕ → ℕ → ℕ
moved_of d n mu k = index_of d (set (coords_of d n) mu ((get_or (coords_of d n) mu 0 + k) % get_or d mu 0))

-- the next site along the axis mu
unfoldable pub fwd_of : List ℕ → ℕ → ℕ → ℕ
fwd_of d n mu = moved_of d n mu 1

-- the site before along the axis mu
unfoldable pub bwd_of : List ℕ → ℕ → ℕ → ℕ
bwd_of d n mu = moved_of d n mu (get_or d mu 0 - 1)

-- all eight neighbours: along t, x, y, z
unfoldable pub neighbours_of : List ℕ → ℕ → Neighbours
neighbours_of d n = record { up = map (fwd_of d n) (range 4); down = map (bwd_of d n) (range 4) }

-- a site with its coordinates
unfoldable pub spot_of : List ℕ → ℕ → Spot
spot_of d n = record { site = n; at = coords_of d n }

-- the sum of a list of numbers
unfoldable pub total : List ℕ → ℕ
total [] = 0
total (c ∷ cs) = c + total cs

-- (t + x + y + z) mod 2
unfoldable pub parity_of : List ℕ → ℕ → ℕ
parity_of d n = total (coords_of d n) % 2
