use Rattle.std.proofs.Common.{◌∙◌, rules}
use Rattle.export.proofs.Jobs.{frame_given}
use Rattle.export.proofs.sweeps.jj_frame_overrelax.Goals as goal
use Rattle.export.proofs.sweeps.jj_frame_overrelax.Goals.{then-is_ok, else-is_ok}

pub returns : goal.returns
returns c =
    let call = rw c.job_in-next.ensures at c.frame_overrelax-answer.ensures in
    frame_given _ _ _ call c.row.ensures
    (λ ok. elim c.if-is_ok.branch [ then-is_ok w ↦ w.job-is ∙ w.job_numbers.ensures | else-is_ok w ↦ absurd (search rules) ])
    (λ err. elim c.if-is_ok.branch [ then-is_ok w ↦ absurd (search rules) | else-is_ok w ↦ w.job-is ])
