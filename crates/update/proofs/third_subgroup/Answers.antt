use Rattle.std.proofs.Common.{sym, refl}
use Rattle.update.proofs.ByRows.{ends, goes_on, third_rows, at_end}
use Rattle.update.proofs.third_subgroup.Goals as goal

pub returns-in_err-x : goal.returns-in_err-x
returns-in_err-x c = λ w e. ends _ _ _ w (sym e) c.reflect.ensures c.in_err-x.was _ c.from_residual.ensures.1

pub returns : goal.returns
returns c = λ w e. goes_on _ _ _ w (sym e) c.reflect.ensures c.in_ok-x.was (third_rows _ _ _ _) refl (rw (c.if_finite.ensures, c.unitary.ensures, c.combine.ensures) (at_end _ _ _ _))
