use Rattle.std.proofs.Common.{◌≡◌, false, map, take, length}
use Rattle.stairs.specs.declared.Step.{Step}
use Rattle.baryon.specs.Situations.{bad_axes}
use Rattle.baryon.specs.Calls.{Stands}
use Rattle.baryon.proofs.walk.steps_of.Given as goal

abbrev pub invariant-loop-x : goal.invariant-loop-x
invariant-loop-x g l = record {
  count : length l.steps ≡ l.x-index;
  laid : (read : _ → Step) → Stands g.S.Into.converts read → l.steps ≡ take l.x-index (map read l.given);
  axes : (read : _ → Step) → Stands g.S.Into.converts read → bad_axes (take l.x-index (map read l.given)) ≡ false;
}
