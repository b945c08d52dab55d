use Rattle.std.proofs.Common.{◌≡◌, ◌+◌, ◌*◌, get_or}
use Rattle.folds.specs.Folds.{iter_to}
use Rattle.slices.specs.Slices.{number, product_at}
use Rattle.slices.specs.Parts.{row_sum}
use Rattle.slices.proofs.time_slice.TimeSlice.plane.Given as goal

abbrev pub invariant-loop-y0 : goal.invariant-loop-y0
invariant-loop-y0 l =
    let d = l.self.extents.d in
    l.s ≡ iter_to (λ y. row_sum d (product_at d (number l.self.loops.now) (number l.self.density.now) l.self.time l.c) (y + get_or d 2 0 * l.z0)) l.sum l.y0
