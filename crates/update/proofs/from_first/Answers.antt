use Rattle.update.proofs.ByRows.{ends, goes_on, first_rows, first_block, for_second}
use Rattle.update.proofs.from_first.Goals as goal

pub returns-in_err-x : goal.returns-in_err-x
returns-in_err-x c = ends _ _ _ _ (first_block _ _ _ c.project.ensures) c.reflect.ensures c.in_err-x.was _ c.from_residual.ensures.1

pub returns : goal.returns
returns c =
    let left = for_second _ _ _ _ c.combine-3.ensures c.combine-4.ensures c.combine-5.ensures in
    goes_on _ _ _ _ (first_block _ _ _ c.project.ensures) c.reflect.ensures c.in_ok-x.was (first_rows _ _ _ _ c.combine.ensures c.combine-2.ensures) left (c.from_second.ensures _)
