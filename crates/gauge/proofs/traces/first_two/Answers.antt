use mathlib.Core.Path.{◌≡◌, ap₂}
use lib.Ieee.{add, binary64}
use native.Mathlib.Omega.{arith}
use Rattle.folds.proofs.Laws.{fold_none}
use Rattle.gauge.proofs.RowProducts.{dot_next, dot_done}
use Rattle.gauge.proofs.traces.first_two.Goals as goal

pub loop-k-init : goal.loop-k-init
loop-k-init c = (omega arith, fold_none _ _ _, fold_none _ _ _)

pub loop-k-preserved : goal.loop-k-preserved
loop-k-preserved c =
    let i = c.loop-k.invariant in
    let h = c.loop-k-test.true in (
      omega arith,
      dot_next _ _ _ _ 0 _ (omega arith) h i.1 c.row_col.ensures c.row_col-in-loop-k.ensures c.conj.ensures c.mul.ensures c.add_assign.ensures.after,
      dot_next _ _ _ _ 1 _ (omega arith) h i.2 c.row_col-in-loop-k-2.ensures c.row_col-in-loop-k-3.ensures c.conj-in-loop-k.ensures c.mul-in-loop-k.ensures c.add_assign-in-loop-k.ensures.after,
    )

pub returns : goal.returns
returns c =
    let i = c.loop-k.invariant in
    let e : c.loop-k.k ≡ 3 = omega arith in
    ap₂ (add binary64) (dot_done _ _ 0 e i.1) (dot_done _ _ 1 e i.2)
