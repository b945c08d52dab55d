-- A step as one byte, for a host that has no structs: twice the axis, and 1 more where it goes forward.
use Rattle.std.specs.Prelude.{ℕ, ◌+◌, ◌*◌, ◌/◌, ◌%◌, cond, ◌≡◌, eqb}
use Rattle.stairs.specs.declared.Step.{Step}

unfoldable pub code_of : Step → ℕ
code_of s = cond s.forward (2 * s.axis + 1) (2 * s.axis)

unfoldable pub step_of_code : ℕ → Step
step_of_code c = record { axis = c / 2; forward = eqb (c % 2) 1 }

-- a step comes back from its byte
abbrev pub StepsComeBack : Type 0
StepsComeBack = (s : Step) → step_of_code (code_of s) ≡ s
