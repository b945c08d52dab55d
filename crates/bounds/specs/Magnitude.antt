-- Bounds on f64 by powers of two, and the test that a list's numbers are from −2 to 2.
use Rattle.std.specs.Prelude.{ℕ, ◌*◌, ◌^◌, ◌≤◌, Bool, ◌&&◌, List, Float, length, get_or}
use Rattle.std.specs.Float.{nan, inf, fin, binary64}
use Rattle.std.specs.Float.Ieee.{up, down, neg, le, of_bits}
use Rattle.folds.specs.Folds.{all_below}

-- ## Bounds

-- finite, and at most 2ᵏ in absolute value; 2ᵉ is up e / down e
abbrev pub AtMost : ℕ → Float → Type 0
AtMost k nan = ⊥
AtMost k (inf s) = ⊥
AtMost k (fin s m e) = m * up e ≤ 2 ^ k * down e

-- a bound that f64 does not reach says nothing: so the laws have no side conditions, and 1023 is asked for once
pub record Magnitude (k : ℕ) (x : Float) : Type 0 where
  pub bound : k ≤ 1023 → AtMost k x

-- ## The test

abbrev pub ftwo : Float
ftwo = of_bits binary64 0x4000_0000_0000_0000

-- from −2 to 2: no infinity and no NaN passes
unfoldable pub within_two : Float → Bool
within_two x = le (neg ftwo) x && le x ftwo

unfoldable pub all_within_two : List Float → Bool
all_within_two l = all_below (λ k. within_two (get_or l k nan)) (length l)
