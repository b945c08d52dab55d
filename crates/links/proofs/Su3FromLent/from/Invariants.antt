use Rattle.std.proofs.Common.{◌+◌, ◌*◌, ◌≡◌}
use Rattle.folds.specs.Folds.{fill}
use Rattle.mat.specs.Matrix.{zeros}
use Rattle.links.specs.Store.{cell_at}
use Rattle.links.proofs.Su3FromLent.from.Given as goal

abbrev pub invariant-loop-k : goal.invariant-loop-k
invariant-loop-k l = l.entry-items ≡ fill (λ k. cell_at l.u.links.now (l.u.place + 2 * k)) zeros l.k
