-- How far apart in number two sites are that are next to each other along an axis, and the steps by it. Definitions only.
use Rattle.std.specs.Prelude.{ℕ, ◌+◌, ◌-◌, ◌<◌, ◌≤◌, cond, List, map, ltb, take}
use Rattle.geometry.specs.Range.{range}
use Rattle.geometry.specs.Radix.{volume}

-- the product of the extents before the axis mu
unfoldable pub stride_of : List ℕ → ℕ → ℕ
stride_of d mu = volume (take mu d)

-- the four strides, and last the number of sites
unfoldable pub strides_of : List ℕ → List ℕ
strides_of d = map (stride_of d) (range 5)

-- A step up and a step down an axis: c is the coordinate, e the extent, s the stride and w the next axis's stride, s times e.
unfoldable pub up_of : ℕ → ℕ → ℕ → ℕ → ℕ → ℕ
up_of n c e s w = cond (ltb (c + 1) e) (n + s) (n + s - w)

unfoldable pub down_of : ℕ → ℕ → ℕ → ℕ → ℕ
down_of n c s w = cond (ltb 0 c) (n - s) (n + w - s)

-- what such a step may count on
pub record StepBounds (n c e s w : ℕ) : Type 0 where
  pub site : n < 65536
  pub stride : s ≤ w
  pub span : w ≤ 65536
  pub within : c < 16
  pub last : e ≤ c + 1 → w ≤ n + s
  pub back : 0 < c → s ≤ n
