-- A grid's extents x, y, z.
use Rattle.std.specs.Prelude.{ℕ, Bool, not, List}
use Rattle.std.specs.List.{list_all}
use Rattle.geometry.specs.Shape.{extent_test}

-- 1: an extent odd, below 2 or above 16
unfoldable pub bad_grid : List ℕ → Bool
bad_grid n = not (list_all extent_test n)
