use Rattle.std.proofs.Common.{arith}
use Rattle.slices.proofs.SliceAdded.{offset_within, slice_added, there}
use Rattle.slices.proofs.cells.slice_cells.Goals as goal

pub coords-requires : goal.coords-requires
coords-requires c = let cells = c.cells-places.ensures in rw c.space-space.ensures (there _ c.args.densities.now.extents.fits (rw c.space-space.ensures at cells.volume) cells.bounds.0 c.loop-j.j)

pub cell-requires : goal.cell-requires
cell-requires c = let cells = c.cells-places.ensures in rw (c.coords.ensures, c.space-space.ensures) (offset_within _ c.args.densities.now.extents.fits (rw c.space-space.ensures at cells.volume) cells.bounds.0 c.loop-j.j)

pub returns : goal.returns
returns c = slice_added _ _ _ _ _ c.loop-j.invariant (omega arith)
