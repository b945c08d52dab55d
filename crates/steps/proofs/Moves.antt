-- A step along an axis by the strides: what it may count on, and where it leads.
use Prim.Native.Nat.{ℕ, suc, ◌+◌, ◌-◌, ◌/◌, ◌%◌, ◌<◌, ◌≤◌}
use mathlib.Core.List.{List}
use mathlib.Core.Path.{◌≡◌, refl, sym}
use native.Mathlib.Numerals.{add-one}
use native.Mathlib.Omega.{arith}
use lib.ListN.{get_or}
use borrow.Author.Tests.{lt-ltb, le-ltb}
use Rattle.geometry.specs.Radix.{volume, coords_of}
use Rattle.geometry.specs.Shape.{Shape}
use Rattle.geometry.specs.Steps.{fwd_of, bwd_of}
use Rattle.geometry.specs.Stride.{stride_of, strides_of, up_of, down_of, StepBounds}
use Rattle.geometry.proofs.Shape.{axis_in, volume_pos}
use Rattle.geometry.proofs.Stride.{stride_of_lem, stride_pos, coord_at, step_fits, step_up, step_down}

module _ (d : List ℕ) (shape : Shape d) (s : List ℕ) (are : s ≡ strides_of d) (n mu : ℕ) (below : n < volume d) (axis : mu < 4) where
  here : get_or s mu 0 ≡ stride_of d mu
  here = rw are (stride_of_lem d mu (omega arith))

  after : get_or s (mu + 1) 0 ≡ stride_of d (suc mu)
  after = rw (are, stride_of_lem d (mu + 1) (omega arith), add-one mu) refl

  pub stride_there : 0 < get_or s mu 0
  stride_there = rw here (stride_pos d mu (volume_pos d shape))

  pub coord_there : n / get_or s mu 0 % get_or d mu 0 ≡ get_or (coords_of d n) mu 0
  coord_there = rw here (sym (coord_at d n mu (axis_in d shape mu axis)))

  module _ (c : ℕ) (coord : c ≡ get_or (coords_of d n) mu 0) where
    pub fits : StepBounds n c (get_or d mu 0) (get_or s mu 0) (get_or s (mu + 1) 0)
    fits = rw (here, after, coord) (step_fits d shape n mu below axis)

    up : up_of n c (get_or d mu 0) (get_or s mu 0) (get_or s (mu + 1) 0) ≡ fwd_of d n mu
    up = rw (here, after, coord) (step_up d n mu below (axis_in d shape mu axis))

    down : down_of n c (get_or s mu 0) (get_or s (mu + 1) 0) ≡ bwd_of d n mu
    down = rw (here, after, coord) (step_down d n mu below (axis_in d shape mu axis))

    pub up_inside : c + 1 < get_or d mu 0 → n + get_or s mu 0 ≡ fwd_of d n mu
    unfolding up_of
    up_inside h = rw (lt-ltb _ _ h) at up

    pub up_around : get_or d mu 0 ≤ c + 1 → n + get_or s mu 0 - get_or s (mu + 1) 0 ≡ fwd_of d n mu
    unfolding up_of
    up_around h = rw (le-ltb _ _ h) at up

    pub down_inside : 0 < c → n - get_or s mu 0 ≡ bwd_of d n mu
    unfolding down_of
    down_inside h = rw (lt-ltb _ _ h) at down

    pub down_around : c ≤ 0 → n + get_or s (mu + 1) 0 - get_or s mu 0 ≡ bwd_of d n mu
    unfolding down_of
    down_around h = rw (le-ltb _ _ h) at down
