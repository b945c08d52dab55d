-- What follows from an addition's promise, for any loop value W at each site and whatever the inputs are.
use Rattle.std.specs.Prelude.{◌≡◌, ℕ, ◌≤◌, List, ◌≢◌, Float, Result, Ok, Err}
use Rattle.rows.specs.declared.Refusal.{Refusal}
use Rattle.sums.specs.Ending.{zeros_like}
use Rattle.flux.specs.declared.FluxAccumulator.{FluxAccumulator}
use Rattle.flux.specs.Sums.{Addition}
use Rattle.flux.specs.Calls.{Added}

module _ (W : ℕ → Float) (x : Addition) (r : Result (Unit {0}) Refusal) (after : FluxAccumulator) (grid scratch : List Float) where
  -- refused by a row other than 10, it stores nothing
  abbrev pub RefusedStoresNothing : Type 0
  RefusedStoresNothing = Added W x r after grid scratch → r ≢ Ok tt → r ≢ Err Refusal.NotFinite → (after ≡ x.acc) × (grid ≡ x.grid) × (scratch ≡ x.scratch)

  -- refused by row 10, it stores nothing but +0 in the scratch
  abbrev pub RowTenClears : Type 0
  RowTenClears = Added W x r after grid scratch → r ≡ Err Refusal.NotFinite → (after ≡ x.acc) × (grid ≡ x.grid) × (scratch ≡ zeros_like x.scratch)

  -- accepted, it leaves the scratch at +0
  abbrev pub AcceptedClears : Type 0
  AcceptedClears = Added W x r after grid scratch → r ≡ Ok tt → scratch ≡ zeros_like x.scratch

  -- the samples never become fewer, and never pass 2^64 − 1
  abbrev pub SamplesGrow : Type 0
  SamplesGrow = Added W x r after grid scratch → x.acc.samples ≤ 0xffff_ffff_ffff_ffff → (x.acc.samples ≤ after.samples) × (after.samples ≤ 0xffff_ffff_ffff_ffff)
