use Rattle.std.proofs.Common.{◌≡◌}
use Rattle.links.proofs.Laws.{put_cells}
use Rattle.links.proofs.store.Given as goal

abbrev pub invariant-loop-k : goal.invariant-loop-k
invariant-loop-k l = l.links ≡ put_cells l.initial.links l.p l.fn.u l.k
