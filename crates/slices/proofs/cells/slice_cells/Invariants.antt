use Rattle.std.proofs.Common.{◌≡◌}
use Rattle.folds.specs.Folds.{fill}
use Rattle.slices.specs.Slices.{number}
use Rattle.slices.proofs.SliceAdded.{cell_added}
use Rattle.slices.proofs.cells.slice_cells.Given as goal

abbrev pub invariant-loop-j : goal.invariant-loop-j
invariant-loop-j l = l.grid ≡ fill (cell_added l.densities.extents.d (number l.loops) l.densities.numbers.now l.time l.initial.grid) l.initial.grid l.j
