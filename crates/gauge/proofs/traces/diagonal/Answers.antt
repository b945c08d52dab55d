use native.Mathlib.Omega.{arith}
use Rattle.folds.proofs.Laws.{fold_none}
use Rattle.gauge.proofs.RowProducts.{dot_next, dot_done}
use Rattle.gauge.proofs.traces.diagonal.Goals as goal

pub loop-k-init : goal.loop-k-init
loop-k-init c = (omega arith, fold_none _ _ _)

pub loop-k-preserved : goal.loop-k-preserved
loop-k-preserved c =
    (omega arith, dot_next _ _ _ _ _ _ c.requires c.loop-k-test.true c.loop-k.invariant.1 c.row_col.ensures c.row_col-in-loop-k.ensures c.conj.ensures c.mul.ensures c.add_assign.ensures.after)

pub returns : goal.returns
returns c = dot_done _ _ _ {n = c.loop-k.k} (omega arith) c.loop-k.invariant.1
