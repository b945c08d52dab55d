-- The worked examples that are proved: one table, and one claim about all of it. Definitions only.
use Rattle.std.specs.Prelude.{◌≡◌, List, [], ◌∷◌, map, false, ℕ, zero, suc, ℤ, pos, negsuc, Float}
use Rattle.std.specs.Float.{fin, binary64}
use Rattle.std.specs.Float.Ieee.{to_bits}
use Rattle.root.specs.Sqrt.{sqrt_of}
use Rattle.complex.specs.Rounded.{as_float}
use Rattle.rng.specs.declared.Rng.{Rng}
use Rattle.rng.specs.Xoshiro.{draw_of}
use Rattle.rng.specs.Uniform.{uniform_of}
use Rattle.geometry.specs.Radix.{coords_of}
use Rattle.geometry.specs.Steps.{fwd_of, bwd_of, parity_of}
use Rattle.geometry.specs.Order.{sites_of}
use Rattle.stairs.specs.Staircase.{staircase_of}
use Rattle.stairs.specs.Codes.{code_of}

-- what the definitions give, and what it has to be: whole numbers, and an f64 by its bits
pub record Point : Type 0 where
  pub given : List ℕ
  pub wanted : List ℕ

abbrev bits : Float → List ℕ
bits x = to_bits binary64 x ∷ []

-- 2 ^ e
abbrev two_to : ℤ → Float
two_to e = fin false 1 e

-- the first n draws
abbrev draws : ℕ → Rng → List ℕ
draws zero g = []
draws (suc n) g = (draw_of g).value ∷ draws n (draw_of g).rng

-- the steps to an offset, each as twice its axis and 1 more where it goes forward
abbrev stairs : ℕ → ℕ → ℕ → List ℕ
stairs x y z = map code_of (staircase_of (pos x ∷ pos y ∷ pos z ∷ []))

-- extents t, x, y, z
abbrev box : List ℕ
box = 4 ∷ 2 ∷ 2 ∷ 2 ∷ []

abbrev cube : List ℕ
cube = 2 ∷ 2 ∷ 2 ∷ 2 ∷ []

abbrev pub points : List Point
points =
    -- of extents 4, 2, 2, 2, site 23 is at 3, 1, 0, 1 and has parity 1
    record { given = coords_of box 23; wanted = 3 ∷ 1 ∷ 0 ∷ 1 ∷ [] }
    ∷ record { given = parity_of box 23 ∷ []; wanted = 1 ∷ [] }
    -- site 0 has the neighbours 1 and 3 along time, and 4 both ways along x
    ∷ record { given = fwd_of box 0 0 ∷ bwd_of box 0 0 ∷ []; wanted = 1 ∷ 3 ∷ [] }
    ∷ record { given = fwd_of box 0 1 ∷ bwd_of box 0 1 ∷ []; wanted = 4 ∷ 4 ∷ [] }
    -- of extents 2, 2, 2, 2, these sites have parity 0
    ∷ record { given = sites_of cube 0; wanted = 0 ∷ 3 ∷ 5 ∷ 6 ∷ 9 ∷ 10 ∷ 12 ∷ 15 ∷ [] }
    -- the state 1, 2, 3, 4 draws 41943041, and then 58720359
    ∷ record { given = draws 2 (record { s = 1 ∷ 2 ∷ 3 ∷ 4 ∷ [] }); wanted = 41943041 ∷ 58720359 ∷ [] }
    -- the raw draw 2047 gives the uniform number 0, and 2048 gives 2 ^ -53
    ∷ record { given = bits (uniform_of 2047); wanted = 0 ∷ [] }
    ∷ record { given = bits (uniform_of 2048); wanted = 0x3ca0_0000_0000_0000 ∷ [] }
    -- the root of 4 is 2, that of 2 has these bits, and that of 2 ^ -1074 is 2 ^ -537
    ∷ record { given = bits (sqrt_of (as_float 4)); wanted = 0x4000_0000_0000_0000 ∷ [] }
    ∷ record { given = bits (sqrt_of (as_float 2)); wanted = 0x3ff6_a09e_667f_3bcd ∷ [] }
    ∷ record { given = bits (sqrt_of (two_to (negsuc 1073))); wanted = 0x1e60_0000_0000_0000 ∷ [] }
    -- the staircase to 1, 1, 0 goes up x and then y: a tie takes the lowest axis; there is none to 0, 0, 0
    ∷ record { given = stairs 1 1 0; wanted = 3 ∷ 5 ∷ [] }
    ∷ record { given = stairs 0 0 0; wanted = [] }
    ∷ []

abbrev pub PointsHold : Type 0
PointsHold = map (λ p. p.given) points ≡ map (λ p. p.wanted) points
