use Rattle.std.proofs.Common.{◌≡◌, ◌++◌, map, take, drop}
use Rattle.stairs.specs.declared.Step.{Step}
use Rattle.baryon.specs.Calls.{Gives}
use Rattle.baryon.proofs.staircases.staircase.Given as goal

abbrev pub invariant-loop-i : goal.invariant-loop-i
invariant-loop-i g l = record {
  laid : (code : Step → _) → Gives g.S.From.from_gives code → l.steps ≡ map code (take l.i l.all) ++ drop l.i l.initial.steps;
}
