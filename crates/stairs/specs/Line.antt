-- The distance of a place from the straight line to an offset, in f64. Places and offsets are lists of whole numbers, one for each axis of space.
use Rattle.std.specs.Prelude.{ℕ, List, get_or, ℤ, pos, Float}
use Rattle.std.specs.Float.{binary64}
use Rattle.std.specs.Float.Ieee.{add, div, of_int}
use Rattle.folds.specs.Folds.{fold_to}
use Rattle.complex.specs.Rounded.{◌⊟◌, ◌⊠◌, fzero}

-- the number along an axis
abbrev pub along_of : List ℤ → ℕ → ℤ
along_of p a = get_or p a (pos 0)

-- and as an f64
abbrev pub real_of : List ℤ → ℕ → Float
real_of p a = of_int binary64 (along_of p a)

-- a sum over the three axes, from +0
abbrev pub sum_axes : (ℕ → Float) → Float
sum_axes f = fold_to (add binary64) fzero f 3

-- p · d
unfoldable pub dot : List ℤ → List ℤ → Float
dot p d = sum_axes (λ a. real_of p a ⊠ real_of d a)

-- x², as one product
abbrev pub square : Float → Float
square x = x ⊠ x

-- |p − t d|², where t = p·d / d·d
unfoldable pub line_dist : List ℤ → List ℤ → Float
line_dist p d = sum_axes (λ a. square (real_of p a ⊟ div binary64 (dot p d) (dot d d) ⊠ real_of d a))
