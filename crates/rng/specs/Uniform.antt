-- A uniform number of a drawn word: its top 53 bits over 2 ^ 53. Definitions, and the claim that nothing is rounded.
use Rattle.std.specs.Prelude.{◌≡◌, ℕ, ◌/◌, ◌^◌, ◌<◌, true, false, pos, Float}
use Rattle.std.specs.Float.{fin, binary64}
use Rattle.std.specs.Float.Ieee.{round, lt}
use Rattle.std.specs.Float.Ieee.Exact.{HasValue}
use Rattle.rng.specs.Xoshiro.{Draw, draw_of}
use Rattle.rng.specs.declared.Rng.{Rng}

-- the f64 nearest to (raw / 2 ^ 11) / 2 ^ 53, where raw / 2 ^ 11 is the whole part
unfoldable pub uniform_of : ℕ → Float
unfolding round
uniform_of raw = round binary64 false (raw / 2 ^ 11) (2 ^ 53)

unfoldable pub uniform_draw_of : Rng → Draw Float
unfolding draw_of uniform_of
uniform_draw_of g = record { value = uniform_of (draw_of g).value; rng = (draw_of g).rng }

-- that fraction is an f64: the number is the fraction itself, with a clear sign, and below 1
pub record ExactUniform (raw : ℕ) : Type 0 where
  pub exact : HasValue (uniform_of raw) false (raw / 2 ^ 11) (2 ^ 53)
  pub below_one : lt (uniform_of raw) (fin false 1 (pos 0)) ≡ true

abbrev pub UniformIsExact : Type 0
UniformIsExact = (raw : ℕ) → raw < 2 ^ 64 → ExactUniform raw
