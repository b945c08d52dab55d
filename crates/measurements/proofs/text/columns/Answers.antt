use Rattle.std.proofs.Common.{sym, ◌∙◌}
use Rattle.rows.specs.Refusals.{refusal_in}
use Rattle.measurements.proofs.Claims.{finite_measurements}
use Rattle.measurements.proofs.Input.{lines_printed, refusal_printed}
use Rattle.measurements.proofs.text.columns.Goals as goal

pub lines-requires : goal.lines-requires
lines-requires c = rw c.on_cold_field.ensures (finite_measurements _ (record { shape = c.in-Ok.extents.fits; few = c.in-Ok.ensures.made.1 }))

pub returns-in-Ok : goal.returns-in-Ok
unfolding refusal_in
returns-in-Ok c =
    let found = c.on_cold_field.ensures ∙ rw c.in-Ok.ensures.made.0 in
    c.lines.ensures ∙ rw found (lines_printed _ (sym c.in-Ok.ensures.refusal))

pub returns-in-Err : goal.returns-in-Err
unfolding refusal_in
returns-in-Err c = c.refused.ensures ∙ refusal_printed _ (sym c.in-Err.ensures.refusal)
