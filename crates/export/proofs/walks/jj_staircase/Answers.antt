use Rattle.std.proofs.Common.{arith, ℕ, [], ◌∷◌, ap}
use Rattle.rows.proofs.Refusals.{value_low}
use Rattle.stairs.specs.Codes.{code_of}
use Rattle.export.proofs.walks.jj_staircase.Goals as goal

pub overflow_cast-count : goal.overflow_cast-count
overflow_cast-count c = let low = value_low 96 _ c.staircase.ensures.few in omega (arith, low, c.row_and_value-row.ensures.value)

pub returns : goal.returns
returns c =
    let call = c.staircase.ensures.laid code_of (λ s b axis h. h (omega arith)) in
    record { answer = record { refusal = rw (← call.answer) c.row_and_value-row.ensures.row; array = rw (← call.answer) (ap (λ (n : ℕ). n ∷ []) c.row_and_value-row.ensures.value) }; list = call.list }
