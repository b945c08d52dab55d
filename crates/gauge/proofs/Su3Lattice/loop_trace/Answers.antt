use Rattle.std.proofs.Common.{◌≡◌, ◌-◌, get_or, arith}
use Rattle.geometry.proofs.Bounds.{shape_low}
use Rattle.gauge.proofs.TimeLine.{line_in, line_around}
use Rattle.gauge.proofs.Su3Lattice.loop_trace.Goals as goal

pub link-requires : goal.link-requires
link-requires c = (omega arith, line_in _ c.args.self.now.extents.fits _ c.requires _ (omega (arith, c.loop-t-test.true)))

pub lend-requires : goal.lend-requires
lend-requires c = let s = c.args.self.now.extents.fits in (omega arith, line_in _ s _ c.requires _ (omega (arith, shape_low _ s)))

pub returns : goal.returns
returns c =
    let s = c.args.self.now.extents.fits in
    let last : c.loop-t.t ≡ get_or c.args.self.now.extents.d 0 0 - 1 = omega arith in
    rw (c.trace.ensures, c.lend.ensures, ← last) (line_around _ s _ c.requires _ _ _ c.loop-t.invariant (omega (arith, last, shape_low _ s)))
