use Rattle.std.proofs.Common.{◌≡◌}
use Rattle.folds.specs.Folds.{iter_to}
use Rattle.complex.specs.Rounded.{fzero}
use Rattle.slices.specs.Slices.{number, product_at}
use Rattle.slices.specs.Parts.{plane_sum}
use Rattle.slices.proofs.time_slice.TimeSlice.cell.Given as goal

abbrev pub invariant-loop-z0 : goal.invariant-loop-z0
invariant-loop-z0 l =
    let d = l.self.extents.d in
    l.s ≡ iter_to (plane_sum d (product_at d (number l.self.loops.now) (number l.self.density.now) l.self.time l.c)) fzero l.z0
