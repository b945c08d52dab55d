use Rattle.std.proofs.Common.{arith}
use Rattle.rows.proofs.Refusals.{value_low}
use Rattle.export.proofs.lists.jj_link_check.Goals as goal

pub overflow_cast-count : goal.overflow_cast-count
overflow_cast-count c = let low = value_low 262144 _ c.link_check.ensures.few in omega (arith, low, c.row_and_value-row.ensures.value)
