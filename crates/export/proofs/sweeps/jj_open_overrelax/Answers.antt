use Rattle.std.proofs.Common.{◌∙◌, rules, ap, refl}
use Rattle.export.specs.Jobs.{job_numbers}
use Rattle.export.proofs.Jobs.{open_given}
use Rattle.export.proofs.sweeps.jj_open_overrelax.Goals as goal

pub returns-then-is_ok : goal.returns-then-is_ok
returns-then-is_ok c =
    let called = c.row_and_value-row.ensures in
    open_given _ _ _ c.open_overrelax-answer.ensures called.row (c.job_numbers.ensures ∙ ap job_numbers called.value) (λ ok. refl) (λ err. absurd (search rules))

pub returns-else-is_ok : goal.returns-else-is_ok
returns-else-is_ok c =
    let called = c.row_and_value-row.ensures in
    open_given _ _ _ c.open_overrelax-answer.ensures called.row (c.job_numbers.ensures ∙ ap job_numbers called.value) (λ ok. absurd (search rules)) (λ err. refl)
