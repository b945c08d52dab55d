use Rattle.steps.proofs.Spots.{After}
use Rattle.steps.proofs.walk.next_coords.Given as goal

abbrev pub invariant-loop-mu : goal.invariant-loop-mu
invariant-loop-mu l = After l.extents.d l.initial.c l.c l.mu
