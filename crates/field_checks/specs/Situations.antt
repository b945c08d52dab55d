-- The situations in which calls on a field are refused: true where the row's words hold.
use Rattle.std.specs.Prelude.{ℕ, ◌*◌, Bool, not, ◌||◌, List, ltb, eqb, Float, get_or}
use Rattle.std.specs.Float.{binary64}
use Rattle.std.specs.Float.Ieee.{of_bits, lt}
use Rattle.std.specs.Float.Ieee.Scale.{finite}
use Rattle.folds.specs.Folds.{all_below}
use Rattle.complex.specs.declared.C64.{C64}
use Rattle.mat.specs.declared.Su3.{Su3}
use Rattle.complex.specs.Rounded.{fzero}
use Rattle.complex.specs.Complex.{finite_entry}
use Rattle.mat.specs.Matrix.{finite_matrix, nth_matrix}
use Rattle.geometry.specs.Radix.{volume}
use Rattle.geometry.specs.Shape.{fits_of}

-- 1: an extent odd, below 2 or above 16
unfoldable pub bad_extents : List ℕ → Bool
bad_extents d = not (fits_of d)

-- 2: not finite, below 0 or above 100
unfoldable pub bad_coupling : Float → Bool
bad_coupling c = not (finite c) || lt c fzero || lt (of_bits binary64 0x4059_0000_0000_0000) c

-- 3: a list of links of wrong length
unfoldable pub bad_links : List ℕ → ℕ → Bool
bad_links d len = not (eqb len (72 * volume d))

-- 4: a site number not below the sites, or a coordinate not below its extent
unfoldable pub bad_site : List ℕ → ℕ → Bool
bad_site d n = not (ltb n (volume d))

unfoldable pub bad_coords : List ℕ → List ℕ → Bool
bad_coords d c = not (all_below (λ mu. ltb (get_or c mu 0) (get_or d mu 0)) 4)

-- 5: a direction above 3, or a plane's two directions equal
unfoldable pub bad_direction : ℕ → Bool
bad_direction mu = ltb 3 mu

unfoldable pub bad_plane : ℕ → ℕ → Bool
bad_plane mu nu = ltb 3 mu || ltb 3 nu || eqb mu nu

-- 10: a number that isn't finite
unfoldable pub bad_number : Float → Bool
bad_number x = not (finite x)

unfoldable pub bad_pair : C64 → Bool
bad_pair z = not (finite_entry z)

unfoldable pub bad_matrix : Su3 → Bool
bad_matrix u = not (finite_matrix u)

unfoldable pub finite_six : List Su3 → Bool
finite_six f = all_below (λ p. finite_matrix (nth_matrix f p)) 6

unfoldable pub bad_six : List Su3 → Bool
bad_six f = not (finite_six f)

-- 12: room for fewer unsound links than there are links
unfoldable pub bad_room : List ℕ → ℕ → Bool
bad_room d room = ltb room (4 * volume d)
