use Rattle.std.proofs.Common.{rules, ◌+◌, arith}
use lib.ListN.{length-append}
use Rattle.stairs.specs.Staircase.{step_along}
use Rattle.stairs.proofs.Whole.{moved}
use Rattle.stairs.proofs.Places.{place_next, near, steps_low, laid_next}
use Rattle.stairs.proofs.offsets.Offset.staircase.Goals as goal

pub loop-preserved : goal.loop-preserved
unfolding step_along
loop-preserved c =
    let i = c.loop.counter in
    let now = c.loop.invariant in
    let d = c.args.self.d in
    let a = c.best_axis-a.result in
    let best = rw c.to-line.ensures at c.best_axis-a.ensures.axis in
    let here = place_next d i now.here best (moved c.loop.p d a now.reached c.best_axis-a.ensures.in_space (search rules) c.signum.ensures.value) in
    record {
      count = rw (c.push.ensures, length-append) (omega (arith, now.count));
      laid = laid_next d i now.laid now.here best (search rules) c.push.ensures;
      here = here;
      reached = near d (i + 1) here (omega (arith, steps_low d c.args.self.reach));
    }
