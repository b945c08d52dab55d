use Rattle.std.proofs.Common.{◌≡◌}
use Rattle.gauge.specs.Field.{link_of}
use Rattle.stairs.specs.Quarks.{offsets_of}
use Rattle.contraction.specs.Baryon.{baryon_of}
use Rattle.slices.specs.Slices.{loops_after, grid_after}
use Rattle.gather.proofs.gather.Given as goal

abbrev pub invariant-loop-t : goal.invariant-loop-t
invariant-loop-t l =
    let d = l.lattice.extents.d in
    let W = baryon_of d (link_of d l.lattice.links.now) l.t_len (offsets_of l.fn.quarks) in
    (l.sum ≡ loops_after d W l.w l.t) × (l.grid ≡ grid_after d W l.densities.numbers.now l.t_len l.densities.count l.initial.grid l.t)
