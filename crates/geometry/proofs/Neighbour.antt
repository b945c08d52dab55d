-- Neighbours: they are sites, a step on and a step back lead home, each step flips the parity, and a corner needs no division.
use Prim.Native.Nat.{ℕ, ◌+◌, ◌-◌, ◌<◌, ◌≤◌}
use mathlib.Core.List.{List}
use mathlib.Core.Path.{◌≡◌, refl, ap, ◌∙◌}
use native.Mathlib.Omega.{arith}
use lib.ListN.{length, get_or}
use Rattle.geometry.specs.Radix.{volume}
use Rattle.geometry.specs.Shape.{Shape}
use Rattle.geometry.specs.Steps.{moved_of, fwd_of, bwd_of, neighbours_of, parity_of}
use Rattle.geometry.proofs.Range.{listed_at}
use Rattle.geometry.proofs.Shape.{volume_pos, axis_in}
use Rattle.geometry.proofs.Steps.{coord_below, moved_below, moved_moved, moved_flips, moved_around}
use Rattle.geometry.proofs.Stride.{corner}

-- ## there and back, for any extents

module _ (d : List ℕ) (n mu : ℕ) (below : n < volume d) (axis : mu < length d) where
  pos : 0 < volume d
  pos = omega arith

  around : (j k : ℕ) → j + k ≡ get_or d mu 0 → moved_of d (moved_of d n mu j) mu k ≡ n
  around j k e = moved_moved d pos n mu axis j k ∙ ap (λ (x : ℕ). moved_of d n mu x) e ∙ moved_around d n mu below axis

  pub bwd_fwd : bwd_of d (fwd_of d n mu) mu ≡ n
  unfolding fwd_of bwd_of
  bwd_fwd = around 1 (get_or d mu 0 - 1) (omega (arith, coord_below d pos n mu axis))

  pub fwd_bwd : fwd_of d (bwd_of d n mu) mu ≡ n
  unfolding fwd_of bwd_of
  fwd_bwd = around (get_or d mu 0 - 1) 1 (omega (arith, coord_below d pos n mu axis))

-- ## a field's neighbours

module _ (d : List ℕ) (shape : Shape d) (n mu : ℕ) (axis : mu < 4) where
  pub fwd_below : fwd_of d n mu < volume d
  unfolding fwd_of
  fwd_below = moved_below d (volume_pos d shape) n mu (axis_in d shape mu axis) 1

  pub bwd_below : bwd_of d n mu < volume d
  unfolding bwd_of
  bwd_below = moved_below d (volume_pos d shape) n mu (axis_in d shape mu axis) (get_or d mu 0 - 1)

  pub fwd_flips : parity_of d (fwd_of d n mu) + parity_of d n ≡ 1
  unfolding fwd_of
  fwd_flips = moved_flips d (volume_pos d shape) n mu (axis_in d shape mu axis) 1 (shape.each mu axis).even refl

  pub bwd_flips : parity_of d (bwd_of d n mu) + parity_of d n ≡ 1
  unfolding bwd_of
  bwd_flips =
      let x = shape.each mu axis in
      moved_flips d (volume_pos d shape) n mu (axis_in d shape mu axis) (get_or d mu 0 - 1) x.even (omega (arith, x.even, x.low))

-- ## all eight at once

pub near_up : (d : List ℕ) (n mu : ℕ) → mu < 4 → get_or (neighbours_of d n).up mu 0 ≡ fwd_of d n mu
unfolding neighbours_of
near_up d n mu h = listed_at (fwd_of d n) 0 4 mu h

pub near_down : (d : List ℕ) (n mu : ℕ) → mu < 4 → get_or (neighbours_of d n).down mu 0 ≡ bwd_of d n mu
unfolding neighbours_of
near_down d n mu h = listed_at (bwd_of d n) 0 4 mu h

-- ## corners

-- c is reached from n by the steps to a and to b, along two axes
pub record Corner (d : List ℕ) (n a b c : ℕ) : Type 0 where
  pub low : n ≤ a + b
  pub is : a + b - n ≡ c
  pub below : c < volume d

module _ (d : List ℕ) (shape : Shape d) (n mu nu : ℕ) (below : n < volume d) (axis : mu < 4) (other : nu < 4) (ne : nu ≡ mu → ⊥) where
  pub corner_of : (k j : ℕ) → Corner d n (moved_of d n mu k) (moved_of d n nu j) (moved_of d (moved_of d n mu k) nu j)
  corner_of k j =
      let m = axis_in d shape mu axis in
      let o = axis_in d shape nu other in
      let e = corner d n mu k nu j below m o ne in
      record { low = omega (arith, e); is = omega (arith, e); below = moved_below d (volume_pos d shape) (moved_of d n mu k) nu o j }

  pub up_down : Corner d n (fwd_of d n mu) (bwd_of d n nu) (bwd_of d (fwd_of d n mu) nu)
  unfolding fwd_of bwd_of
  up_down = corner_of 1 (get_or d nu 0 - 1)

  pub down_up : Corner d n (bwd_of d n mu) (fwd_of d n nu) (fwd_of d (bwd_of d n mu) nu)
  unfolding fwd_of bwd_of
  down_up = corner_of (get_or d mu 0 - 1) 1

  pub down_down : Corner d n (bwd_of d n mu) (bwd_of d n nu) (bwd_of d (bwd_of d n mu) nu)
  unfolding bwd_of
  down_down = corner_of (get_or d mu 0 - 1) (get_or d nu 0 - 1)
