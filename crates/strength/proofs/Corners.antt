-- A site is at most the sum of the two beside it on the way to a corner, so that a corner's number is worked out with no number below 0.
use Prim.Native.Nat.{ℕ, ◌+◌, ◌<◌, ◌≤◌}
use mathlib.Core.List.{List}
use mathlib.Core.Path.{◌≡◌}
use Rattle.geometry.specs.Radix.{volume}
use Rattle.geometry.specs.Shape.{Shape}
use Rattle.geometry.specs.Steps.{fwd_of, bwd_of}
use Rattle.geometry.proofs.Neighbour.{up_down, down_up, down_down}

module _ (d : List ℕ) (shape : Shape d) (n mu nu : ℕ) (below : n < volume d) (axis : mu < 4) (other : nu < 4) (ne : nu ≡ mu → ⊥) where
  pub up_down_low : n ≤ fwd_of d n mu + bwd_of d n nu
  up_down_low = (up_down d shape n mu nu below axis other ne).low

  pub down_up_low : n ≤ bwd_of d n mu + fwd_of d n nu
  down_up_low = (down_up d shape n mu nu below axis other ne).low

  pub down_down_low : n ≤ bwd_of d n mu + bwd_of d n nu
  down_down_low = (down_down d shape n mu nu below axis other ne).low
