use Rattle.std.proofs.Common.{◌∙◌, arith}
use Rattle.folds.proofs.Laws.{iter_next}
use Rattle.slices.proofs.SliceInRows.{Rows, rows}
use Rattle.slices.proofs.time_slice.TimeSlice.plane.Goals as goal
use Rattle.slices.proofs.time_slice.TimeSlice.plane.Goals.{After-wrap-y}

-- the loops' row and the density's
read : (c : After-wrap-y) → let s = c.args.self.now in Rows s.loops.now s.density.now s.extents.d s.time c.args.c c.loop-y0.y0 c.args.z0 c.wrap-y.result c.wrap-z.result
read c =
    let s = c.args.self.now in
    rows _ _ _ _ _ _ _ _ _ s.extents.fits s.places s.sites s.in_time c.requires.0 c.loop-y0-test.true c.requires.1 c.wrap-y.ensures c.wrap-z.ensures

pub slice_bounds-row-end : goal.slice_bounds-row-end
slice_bounds-row-end c = (read (goal.at.slice_bounds-row-end c).After-wrap-y).here_fits

pub offset_bounds-self-there : goal.offset_bounds-self-there
offset_bounds-self-there c = let r = read (goal.at.offset_bounds-self-there c).After-wrap-y in omega (arith, r.there_fits, r.small)

pub slice_bounds-row-count-in-loop-y0 : goal.slice_bounds-row-count-in-loop-y0
slice_bounds-row-count-in-loop-y0 c = let r = read (goal.at.slice_bounds-row-count-in-loop-y0 c).After-wrap-y in omega (arith, r.there_fits)

pub row-s-requires : goal.row-s-requires
row-s-requires c = let r = read (goal.at.row-s-requires c).After-wrap-y in (r.reaches, omega (arith, r.long, r.offset))

pub slice_bounds-row-start-in-loop-y0 : goal.slice_bounds-row-start-in-loop-y0
slice_bounds-row-start-in-loop-y0 c = let r = read (goal.at.slice_bounds-row-start-in-loop-y0 c).After-wrap-y in omega (arith, r.there_fits)

pub loop-y0-preserved : goal.loop-y0-preserved
loop-y0-preserved c =
    let r = read (goal.at.loop-y0-preserved c).After-wrap-y in
    iter_next _ _ _ c.loop-y0.invariant (c.row-s.ensures ∙ r.sum _)
