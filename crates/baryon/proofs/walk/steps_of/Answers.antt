use Rattle.std.proofs.Common.{◌≡◌, arith, get_or, map}
use Rattle.std.proofs.lemmas.Grind.{common_steps}
use Rattle.rows.specs.Refusals.{first_refusal, refusal_in}
use Rattle.stairs.specs.declared.Step.{Step}
use Rattle.baryon.specs.Calls.{Stands}
use Rattle.baryon.specs.Situations.{bad_axes}
use Rattle.baryon.proofs.Along.{step_read}
use Rattle.baryon.proofs.walk.steps_of.Given.{Over}
use Rattle.baryon.proofs.walk.steps_of.Goals as goal
use Rattle.baryon.proofs.walk.steps_of.Goals.{After-into-step}

-- the step is what this turn's item stands for
turn : (g : Over) (c : After-into-step g) (read : _ → Step) → Stands g.S.Into.converts read → c.into-step.result ≡ get_or (map read c.args.given.now) c.loop-x.x-index c.into-step.result
turn g c read h = step_read read c.args.given.now c.loop-x.x-index h c.loop-x-test.true c.x-item.is c.into-step.ensures

pub returns-then-step-gt3 : goal.returns-then-step-gt3
unfolding first_refusal refusal_in bad_axes
returns-then-step-gt3 g c = λ read h.
    let s = turn g (goal.at.returns-then-step-gt3 g c).After-into-step read h in
    grind (arith, common_steps)

pub loop-x-preserved : goal.loop-x-preserved
unfolding bad_axes
loop-x-preserved g c =
    let step = turn g (goal.at.loop-x-preserved g c).After-into-step in
    record {
      count = grind (arith, common_steps);
      laid = λ read h. let s = step read h in let w = c.loop-x.invariant.laid read h in grind (arith, common_steps);
      axes = λ read h. let s = step read h in let w = c.loop-x.invariant.axes read h in grind (arith, common_steps);
    }
