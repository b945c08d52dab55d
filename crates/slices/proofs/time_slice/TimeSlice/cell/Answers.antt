use Rattle.std.proofs.Common.{◌≡◌, get_or, ◌∙◌, arith}
use Rattle.slices.specs.Slices.{slice_sum}
use Rattle.slices.proofs.SliceInRows.{planes_are}
use Rattle.slices.proofs.time_slice.TimeSlice.cell.Goals as goal

pub returns : goal.returns
unfolding slice_sum
returns c =
    let d = c.args.self.now.extents.d in
    let e : c.loop-z0.z0 ≡ get_or d 3 0 = omega arith in
    rw e at c.loop-z0.invariant ∙ planes_are d _ c.args.self.now.extents.fits
