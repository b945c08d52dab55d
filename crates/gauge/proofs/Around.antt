-- A site is at most the sum of two beside it, so that the corner between them is worked out with no number below 0.
use Prim.Native.Nat.{ℕ, ◌+◌, ◌<◌, ◌≤◌}
use mathlib.Core.List.{List}
use mathlib.Core.Path.{◌≡◌}
use Rattle.geometry.specs.Radix.{volume}
use Rattle.geometry.specs.Shape.{Shape}
use Rattle.geometry.specs.Steps.{fwd_of, bwd_of}
use Rattle.geometry.proofs.Neighbour.{up_down}

pub corner_low : (d : List ℕ) → Shape d → (n mu nu : ℕ) → n < volume d → mu < 4 → nu < 4 → (nu ≡ mu → ⊥) → n ≤ fwd_of d n mu + bwd_of d n nu
corner_low d shape n mu nu below axis other ne = (up_down d shape n mu nu below axis other ne).low
