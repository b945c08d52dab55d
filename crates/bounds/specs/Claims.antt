-- What the operations make of a bound, for any exponents; the test gives the first bound, and a bound gives finiteness.
use Rattle.std.specs.Prelude.{ℕ, ◌+◌, ◌≤◌, true, ◌≡◌, Float}
use Rattle.std.specs.Float.Ieee.{neg}
use Rattle.std.specs.Float.Ieee.Scale.{finite}
use Rattle.complex.specs.Rounded.{◌⊞◌, ◌⊟◌, ◌⊠◌}
use Rattle.bounds.specs.Magnitude.{Magnitude, within_two}

pub record MagnitudesAreKept : Type 0 where
  pub product : (j k : ℕ) (x y : Float) → Magnitude j x → Magnitude k y → Magnitude (j + k) (x ⊠ y)
  pub sum : (k : ℕ) (x y : Float) → Magnitude k x → Magnitude k y → Magnitude (k + 1) (x ⊞ y)
  pub difference : (k : ℕ) (x y : Float) → Magnitude k x → Magnitude k y → Magnitude (k + 1) (x ⊟ y)
  pub negation : (k : ℕ) (x : Float) → Magnitude k x → Magnitude k (neg x)
  pub tested : (x : Float) → within_two x ≡ true → Magnitude 1 x
  pub bounded : (k : ℕ) (x : Float) → k ≤ 1023 → Magnitude k x → finite x ≡ true
