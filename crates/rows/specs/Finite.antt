-- Row 10 for a list of numbers.
use Rattle.std.specs.Prelude.{Bool, not, List, Float, length, get_or}
use Rattle.std.specs.Float.{nan}
use Rattle.std.specs.Float.Ieee.Scale.{finite}
use Rattle.folds.specs.Folds.{all_below}

unfoldable pub finite_numbers : List Float → Bool
finite_numbers l = all_below (λ k. finite (get_or l k nan)) (length l)

-- 10: a number of the list isn't finite
unfoldable pub bad_numbers : List Float → Bool
bad_numbers l = not (finite_numbers l)
