-- What an addition makes of the sums, for any loop value W at each site.
use Rattle.std.specs.Prelude.{ℕ, ◌+◌, min, List, Float}
use Rattle.geometry.specs.Radix.{volume}
use Rattle.slices.specs.Slices.{grid_of, loops_of, sums_of}
use Rattle.flux.specs.declared.FluxAccumulator.{FluxAccumulator}

-- an accumulator with other sums and so many more samples, whose number stops at 2^64 − 1
unfoldable pub with_sums : FluxAccumulator → ℕ → Float → List Float → FluxAccumulator
with_sums acc sites w s = record {
  n = acc.n;
  offsets = acc.offsets;
  t_len = acc.t_len;
  count = acc.count;
  samples = min (acc.samples + sites) 0xffff_ffff_ffff_ffff;
  w = w;
  s = s;
}

-- an addition's inputs
pub record Addition : Type 0 where
  pub acc : FluxAccumulator
  pub extents : List ℕ
  pub count : ℕ
  pub links : List Float
  pub densities : List Float
  pub grid : List Float
  pub scratch : List Float

abbrev pub addition_of : FluxAccumulator → List ℕ → ℕ → List Float → List Float → List Float → List Float → Addition
addition_of acc d count links densities grid scratch = record { acc = acc; extents = d; count = count; links = links; densities = densities; grid = grid; scratch = scratch }

module _ (W : ℕ → Float) (x : Addition) where
  -- the grid's numbers
  unfoldable pub added_grid : List Float
  added_grid = grid_of x.extents W x.densities x.acc.t_len x.count x.grid

  -- the accumulator: every site is a sample
  unfoldable pub added_of : FluxAccumulator
  added_of = with_sums x.acc (volume x.extents) (loops_of x.extents W x.acc.w) (sums_of x.extents x.densities x.count x.acc.s)
