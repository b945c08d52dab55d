-- A step and its byte.
use Rattle.std.proofs.Common.{arith}
use Rattle.std.proofs.lemmas.Grind.{common_steps}
use Rattle.stairs.specs.Codes.{code_of, step_of_code, StepsComeBack}

pub steps_come_back : StepsComeBack
unfolding code_of step_of_code
steps_come_back s = grind (arith, common_steps)
