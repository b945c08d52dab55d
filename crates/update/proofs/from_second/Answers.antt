use Rattle.std.proofs.Common.{refl}
use Rattle.update.proofs.ByRows.{ends, goes_on, second_rows, second_block, for_third}
use Rattle.update.proofs.from_second.Goals as goal

pub returns-in_err-x : goal.returns-in_err-x
returns-in_err-x c = λ z. ends _ _ _ _ (second_block _ _ _ c.project.ensures) c.reflect.ensures c.in_err-x.was _ c.from_residual.ensures.1

pub returns : goal.returns
returns c = λ z.
    let left = for_third _ (record { c0 = z; c1 = c.args.e; c2 = c.args.f }) _ c.in_ok-x.x c.combine-3.ensures c.combine-4.ensures c.project-2.ensures in
    goes_on _ _ _ _ (second_block _ _ _ c.project.ensures) c.reflect.ensures c.in_ok-x.was (second_rows _ _ _ _ c.combine.ensures c.combine-2.ensures) refl (c.third_subgroup.ensures _ left)
