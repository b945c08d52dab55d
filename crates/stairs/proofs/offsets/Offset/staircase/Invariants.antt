use Rattle.std.proofs.Common.{◌≡◌, length, map}
use Rattle.geometry.specs.Range.{range}
use Rattle.stairs.specs.Staircase.{place_at, step_at, Reached}
use Rattle.stairs.proofs.offsets.Offset.staircase.Given as goal

abbrev pub invariant-loop : goal.invariant-loop
invariant-loop l = record {
  count : length l.steps ≡ l.counter;
  laid : l.steps ≡ map (step_at l.d) (range l.counter);
  here : l.p ≡ place_at l.d l.counter;
  reached : Reached l.p;
}
