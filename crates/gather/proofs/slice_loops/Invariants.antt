use Rattle.std.proofs.Common.{◌≡◌, ◌+◌, ◌*◌, get_or}
use Rattle.folds.specs.Folds.{fill}
use Rattle.gauge.specs.Field.{link_of}
use Rattle.contraction.specs.Baryon.{loop_of}
use Rattle.gather.proofs.slice_loops.Given as goal

abbrev pub invariant-loop-k : goal.invariant-loop-k
invariant-loop-k l =
    let d = l.lattice.extents.d in
    l.loops ≡ fill (λ k. loop_of d (link_of d l.lattice.links.now) l.t_len (l.t + get_or d 0 0 * k) l.paths) l.initial.loops l.k
