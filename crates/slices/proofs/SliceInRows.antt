-- A slice's sum row by row: what the loops over planes and rows leave is the sum over all places.
use Rattle.std.proofs.Common.{ℕ, ◌+◌, ◌-◌, ◌*◌, ◌%◌, ◌<◌, ◌≤◌, List, ◌≡◌, length, get_or, take, drop, ap, sym, ◌∙◌, length-drop, mul-add, arith}
use native.Mathlib.Nat.{mod-lt}
use Rattle.std.proofs.lemmas.List.{get_or-drop, take_rest}
use lib.Ieee.{Float, nan, binary64, add}
use lib.Seq.{length-take-le}
use Rattle.folds.specs.Folds.{fold_to, iter_to}
use Rattle.folds.proofs.Folds.{fold_same, fold_iter, iter_same, iter_nested}
use Rattle.complex.specs.Rounded.{◌⊠◌, fzero}
use Rattle.geometry.specs.Radix.{volume, Within}
use Rattle.geometry.specs.Shape.{Shape}
use Rattle.geometry.proofs.Shape.{axis_in, volume_high}
use Rattle.gauge.specs.Polyakov.{space, site_at}
use Rattle.gauge.proofs.TimeLine.{places_are, line_below, site_at_lem}
use Rattle.slices.specs.Slices.{places, shifted, number, product_at}
use Rattle.slices.specs.Parts.{wrapped_sum, row_sum, plane_sum, Reaches}
use Rattle.slices.proofs.Filled.{part_at}
use Rattle.geometry.proofs.Shape.{space_are}
use Rattle.slices.proofs.Space.{three, shifted_three, three_below}

-- ## planes, then rows, are all places

module _ (d : List ℕ) (f : ℕ → Float) where
  abbrev step : ℕ → Float → Float
  step k s = add binary64 s (f k)

  row_steps : (j : ℕ) (s : Float) → row_sum d f j s ≡ iter_to (λ x. step (x + get_or d 1 0 * j)) s (get_or d 1 0)
  unfolding row_sum
  row_steps j s = fold_iter (add binary64) s (λ x. f (x + get_or d 1 0 * j)) (get_or d 1 0)

  pub planes_are : Shape d → iter_to (plane_sum d f) fzero (get_or d 3 0) ≡ fold_to (add binary64) fzero f (places d)
  unfolding plane_sum
  planes_are shape =
      iter_nested (row_sum d f) fzero (get_or d 2 0) (get_or d 3 0)
      ∙ iter_same (row_sum d f) (λ j s. iter_to (λ x. step (x + get_or d 1 0 * j)) s (get_or d 1 0)) fzero (get_or d 2 0 * get_or d 3 0) (λ j h s. row_steps j s)
      ∙ iter_nested step fzero (get_or d 1 0) (get_or d 2 0 * get_or d 3 0)
      ∙ sym (fold_iter (add binary64) fzero f (get_or d 1 0 * (get_or d 2 0 * get_or d 3 0)))
      ∙ ap (fold_to (add binary64) fzero f) (places_are d shape.four)

-- ## a row of products stands where the code reads it

-- the row y of the plane z of the loop values w, and the row u of the plane v of the density S
module _ (w S : List Float) (d : List ℕ) (tm : ℕ) (c : List ℕ) (y z u v : ℕ) where
  abbrev nt : ℕ
  nt = get_or d 0 0

  abbrev nx : ℕ
  nx = get_or d 1 0

  abbrev ny : ℕ
  ny = get_or d 2 0

  abbrev nz : ℕ
  nz = get_or d 3 0

  abbrev here : ℕ
  here = nx * (y + ny * z)

  abbrev there : ℕ
  there = tm + nt * (nx * (u + ny * v))

  abbrev loops : List Float
  loops = take (here + nx - here) (drop here w)

  abbrev density : List Float
  density = take (length S - there) (drop there S)

  pub record Rows : Type 0 where
    pub here_fits : here + nx ≤ length w
    pub there_fits : there < length S
    pub small : length S ≤ 65536
    pub reaches : Reaches loops density nt
    pub long : length loops ≡ nx
    pub offset : get_or c 0 0 < nx
    pub sum : (s : Float) → wrapped_sum loops density nt (get_or c 0 0) s ≡ row_sum d (product_at d (number w) (number S) tm c) (y + ny * z) s

  pub rows : Shape d → length w ≡ places d → length S ≡ volume d → tm < nt → Within (space d) c → y < ny → z < nz
      → u ≡ (y + get_or c 1 0) % ny → v ≡ (z + get_or c 2 0) % nz → Rows
  unfolding product_at wrapped_sum row_sum
  rows shape wide long_S time within hy hz eu ev = record {
    here_fits = here_in;
    there_fits = omega (arith, there_in 0 (omega (arith, in_row)));
    small = rw long_S (volume_high d shape);
    reaches = record { each = λ i h. rw (take_rest S there, length-drop there S) (let far = there_in i (omega (arith, h, wide_row)) in omega (arith, far)) };
    long = wide_row;
    offset = in_row;
    sum = sums;
  }
    where
      axis : 0 < length d
      axis = axis_in d shape 0 (omega arith)

      off : Within (three nx ny nz) c
      off = rw (space_are d shape) at within

      in_row : get_or c 0 0 < nx
      in_row = off.each 0 (omega arith)

      hu : u < ny
      hu = rw eu (mod-lt (y + get_or c 1 0) (omega (arith, hy)))

      hv : v < nz
      hv = rw ev (mod-lt (z + get_or c 2 0) (omega (arith, hz)))

      placed : (x a b : ℕ) → x < nx → a < ny → b < nz → x + nx * (a + ny * b) < places d
      placed x a b hx ha hb = rw (← (places_are d shape.four)) (three_below nx ny nz x a b hx ha hb)

      here_in : here + nx ≤ length w
      here_in = let last = placed (nx - 1) y z (omega (arith, in_row)) hy hz in omega (arith, last, wide, in_row)

      row_long : here + nx - here ≡ nx
      row_long = omega arith

      wide_row : length loops ≡ nx
      wide_row = rw row_long (length-take-le nx (drop here w) (rw (length-drop here w) (omega (arith, here_in))))

      there_in : (i : ℕ) → i < nx → there + nt * i < length S
      there_in i h = let site = line_below d axis (i + nx * (u + ny * v)) tm (placed i u v h hu hv) time in omega (arith, site, mul-add nt i (nx * (u + ny * v)), long_S)

      place_is : (x : ℕ) → x < nx → shifted (space d) c (x + nx * (y + ny * z)) ≡ (x + get_or c 0 0) % nx + nx * (u + ny * v)
      place_is x hx = ap (λ (e : List ℕ). shifted e c (x + nx * (y + ny * z))) (space_are d shape) ∙ shifted_three nx ny nz c x y z hx hy hz ∙ rw (← eu, ← ev)

      product_is : (x : ℕ) → x < nx → number loops x ⊠ number density (nt * ((x + get_or c 0 0) % length loops)) ≡ product_at d (number w) (number S) tm c (x + nx * (y + ny * z))
      product_is x hx =
          let e : (x + get_or c 0 0) % nx < nx = mod-lt (x + get_or c 0 0) (omega (arith, hx)) in
          let site = ap (site_at d tm) (place_is x hx) ∙ site_at_lem d axis tm _ (placed _ u v e hu hv) in
          let first : here + x ≡ x + nx * (y + ny * z) = omega arith in
          let apart = mul-add nt ((x + get_or c 0 0) % nx) (nx * (u + ny * v)) in
          let same : there + nt * ((x + get_or c 0 0) % nx) ≡ tm + nt * ((x + get_or c 0 0) % nx + nx * (u + ny * v)) = omega (arith, apart) in
          rw (wide_row, row_long, take_rest S there, get_or-drop there S (nt * ((x + get_or c 0 0) % nx)) nan, part_at w here nx x nan hx, site, first, same)

      sums : (s : Float) → wrapped_sum loops density nt (get_or c 0 0) s ≡ row_sum d (product_at d (number w) (number S) tm c) (y + ny * z) s
      sums s = rw wide_row (fold_same (add binary64) s _ (λ x. product_at d (number w) (number S) tm c (x + nx * (y + ny * z))) nx (λ x h. rw wide_row at (product_is x h)))
