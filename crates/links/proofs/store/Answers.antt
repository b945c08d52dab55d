use Rattle.std.proofs.Common.{arith}
use Rattle.folds.proofs.Laws.{iter_none, iter_next, iter_done}
use Rattle.links.specs.Store.{with_matrix}
use Rattle.links.proofs.store.Goals as goal

pub loop-k-init : goal.loop-k-init
loop-k-init c = iter_none _ _

pub loop-k-preserved : goal.loop-k-preserved
loop-k-preserved c = iter_next _ _ _ c.loop-k.invariant c.put.ensures

pub returns : goal.returns
unfolding with_matrix
returns c = iter_done _ _ {m = c.loop-k.k} (omega arith) c.loop-k.invariant
