use Rattle.std.proofs.Common.{rules, arith, ap, ◌<◌, false, length, get_or}
use Rattle.baryon.proofs.Along.{laid_more}
use Rattle.baryon.proofs.staircases.staircase.Goals as goal

pub loop-i-preserved : goal.loop-i-preserved
loop-i-preserved g c =
    let all = c.as_slice-all.result.now in
    let i = c.loop-i.i in
    record {
      laid = λ code h.
          let axis : (get_or all i (record { axis = 0; forward = false })).axis < 4 = c.as_slice-all.ensures.axes i _ c.loop-i-test.true in
          laid_more code all c.args.steps.now c.loop-i.steps i _ c.loop-i-test.true (omega (arith, ap length c.as_slice-all.ensures.steps)) (c.loop-i.invariant.laid code h) (search rules) (h _ _ axis c.from.ensures);
    }
