use Rattle.std.proofs.Common.{arith}
use Rattle.folds.proofs.Laws.{fill_none, fill_next}
use Rattle.mat.proofs.Laws.{fill_each}
use Rattle.links.specs.Store.{matrix_at}
use Rattle.links.proofs.Su3FromLent.from.Goals as goal

pub loop-k-init : goal.loop-k-init
loop-k-init c = fill_none _ _

pub loop-k-preserved : goal.loop-k-preserved
loop-k-preserved c = fill_next _ _ _ c.loop-k.invariant c.cell.ensures

pub returns : goal.returns
unfolding matrix_at
returns c = fill_each _ c.loop-k.k (omega arith) c.loop-k.invariant
