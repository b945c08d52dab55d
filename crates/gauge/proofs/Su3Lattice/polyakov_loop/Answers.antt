use Rattle.folds.proofs.Laws.{fold_none, fold_next}
use Rattle.gauge.proofs.Su3Lattice.polyakov_loop.Goals as goal

pub loop-k-init : goal.loop-k-init
loop-k-init c = fold_none _ _ _

pub loop-k-preserved : goal.loop-k-preserved
loop-k-preserved c = fold_next _ _ _ _ c.loop-k.invariant c.loop_trace.ensures c.add_assign.ensures.after
