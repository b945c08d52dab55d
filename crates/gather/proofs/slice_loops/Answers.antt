use Rattle.std.proofs.Common.{arith}
use Rattle.geometry.proofs.Shape.{axis_in}
use Rattle.gauge.proofs.TimeLine.{line_below}
use Rattle.gather.proofs.slice_loops.Goals as goal

pub new-requires : goal.new-requires
new-requires c =
    let e = c.args.lattice.now.extents in
    let below = line_below e.d (axis_in _ e.fits 0 (omega arith)) c.loop-k.k c.args.t (omega (arith, c.requires.room, c.loop-k-test.true)) c.requires.time in
    omega (arith, below)
