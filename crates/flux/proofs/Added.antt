-- What an addition answers and stores: refused by its inputs, and else as the end of the addition has it.
use Rattle.std.proofs.Common.{◌≡◌, ℕ, List, length, drop, Option, None, Some, Result, Err, refl}
use lib.Ieee.{Float}
use Rattle.rows.specs.declared.Refusal.{Refusal}
use Rattle.rows.specs.Refusals.{finally, answered, unless}
use Rattle.sums.specs.Ending.{sums_refusal, SumsStored}
use Rattle.flux.specs.declared.FluxAccumulator.{FluxAccumulator}
use Rattle.flux.specs.Sums.{Addition, added_grid, added_of}
use Rattle.flux.specs.Calls.{inputs_refusal, add_refusal, Added}

module _ (W : ℕ → Float) (x : Addition) where
  pub added_refused : {e : Refusal} → inputs_refusal x ≡ Some e → Added W x (Err e) x.acc x.grid x.scratch
  unfolding add_refusal finally answered unless
  added_refused h = record { answer = rw h refl; sums = rw h refl; list = rw h refl; cleared = rw h refl }

  -- row 10, or the new sums
  module _ (w : Float) (s scratch : List Float) (o : Option Refusal) (none : inputs_refusal x ≡ None) (loops : w ≡ (added_of W x).w) (sums : s ≡ (added_of W x).s) (grid : drop (length x.grid) scratch ≡ added_grid W x)
      (len : length scratch ≡ length x.scratch) (tested : sums_refusal (drop (length x.grid) scratch) w s ≡ o) where
    last : add_refusal W x ≡ o
    unfolding add_refusal finally sums_refusal
    last = rw (none, ← loops, ← sums, ← grid) tested

    pub added_stored : {r : Result (Unit {0}) Refusal} {grid_after after : List Float} {acc : FluxAccumulator} → acc ≡ unless o (added_of W x) x.acc → SumsStored w s x.grid scratch r grid_after after → Added W x r acc grid_after after
    unfolding unless
    added_stored same h = record {
      answer = rw last (rw (← tested) h.answer);
      sums = rw last same;
      list = rw (last, ← grid) (rw (← tested) h.list);
      cleared = rw none (rw (← len) h.cleared);
    }
