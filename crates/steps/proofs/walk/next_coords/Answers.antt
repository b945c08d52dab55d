use Rattle.std.proofs.Common.{arith}
use Rattle.steps.proofs.Spots.{after_none, small, after_next, after_all}
use Rattle.steps.proofs.walk.next_coords.Goals as goal

pub overflow_add-c : goal.overflow_add-c
overflow_add-c c = omega (arith, small _ _ c.args.extents.fits c.requires _ c.loop-mu-test.true c.loop-mu.invariant)

pub loop-mu-init : goal.loop-mu-init
loop-mu-init c = after_none _ _ c.args.extents.fits c.requires

pub loop-mu-preserved : goal.loop-mu-preserved
loop-mu-preserved c = after_next _ _ c.args.extents.fits c.requires _ c.loop-mu-test.true c.loop-mu.invariant (omega (arith, c.if-c-mu.false))

pub returns : goal.returns
returns c = after_all _ _ c.args.extents.fits c.requires c.loop-mu.invariant (omega arith)
