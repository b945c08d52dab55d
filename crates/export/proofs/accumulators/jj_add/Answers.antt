use Rattle.std.proofs.Common.{◌∙◌, rules}
use Rattle.export.specs.Accumulators.{addition_in}
use Rattle.export.proofs.Sums.{add_given}
use Rattle.export.proofs.accumulators.jj_add.Goals as goal
use Rattle.export.proofs.accumulators.jj_add.Goals.{then-is_ok, else-is_ok}

pub returns : goal.returns
returns c =
    let q = c.args in
    let x = addition_in q.counts.now q.offsets.now q.sums.now q.ext.now q.densities q.links.now q.density.now q.grid.now q.scratch.now in
    let after = c.add-answer.new.self in
    add_given x {after = after} (rw (← c.accumulator-acc.ensures) c.add-answer.ensures) c.row.ensures
    (λ ok. elim c.if-is_ok.branch [ then-is_ok w ↦ (w.counts-is ∙ w.count_numbers.ensures, w.sums-is ∙ w.sum_numbers.ensures) | else-is_ok w ↦ absurd (search rules) ])
    (λ err. elim c.if-is_ok.branch [ then-is_ok w ↦ absurd (search rules) | else-is_ok w ↦ (w.counts-is, w.sums-is) ])
