-- What the loop over the slices asks for, and what it hands on.
use Rattle.std.specs.Prelude.{ℕ, ◌*◌, ◌<◌, ◌≤◌, List, ◌≡◌, Float, length, get_or}
use Rattle.slices.specs.Slices.{places, grid_of, loops_of}

-- time length and count of densities in range
pub record ParametersFit (t count : ℕ) : Type 0 where
  pub time : t ≤ 64
  pub some : 0 < count
  pub few : count ≤ 4

-- w has room for the loop values of the slice t
pub record Slice (w : List Float) (d : List ℕ) (t : ℕ) : Type 0 where
  pub time : t < get_or d 0 0
  pub room : length w ≡ places d

-- e are the densities' extents
pub record Gathering (w grid : List Float) (d e : List ℕ) (t count : ℕ) : Type 0 where
  pub same : e ≡ d
  pub own : ParametersFit t count
  pub room : length w ≡ places d
  pub cells : length grid ≡ count * places d

-- for any loop value W at each site: w is the loops' sum before, r after
pub record Gathered (W : ℕ → Float) (d : List ℕ) (dens : List Float) (t count : ℕ) (old : List Float) (w r : Float) (after : List Float) : Type 0 where
  pub loops : r ≡ loops_of d W w
  pub grid : after ≡ grid_of d W dens t count old
