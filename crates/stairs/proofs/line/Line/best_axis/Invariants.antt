use Rattle.std.proofs.Common.{◌≡◌}
use Rattle.stairs.proofs.Best.{best_below}
use Rattle.stairs.proofs.line.Line.best_axis.Given as goal

abbrev pub invariant-loop-a : goal.invariant-loop-a
invariant-loop-a l = l.best ≡ best_below l.p l.self.d l.a
