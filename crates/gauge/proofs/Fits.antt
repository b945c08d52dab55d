-- A list that holds a field has the length of one.
use mathlib.Core.List.{List}
use Prim.Native.Nat.{ℕ}
use lib.Ieee.{Float}
use Rattle.geometry.specs.Radix.{volume}
use Rattle.geometry.proofs.Shape.{volume_high}
use Rattle.links.specs.Field.{Sized}
use Rattle.gauge.specs.Field.{Holds}

pub sized : (d : List ℕ) (l : List Float) → Holds d l → Sized l (volume d)
sized d l holds = record { len = holds.len; small = volume_high d holds.shape }
