use Rattle.std.proofs.Common.{◌≡◌}
use Rattle.folds.specs.Folds.{fold_to}
use Rattle.complex.specs.Complex.{czero, cadd}
use Rattle.gauge.specs.Field.{link_of}
use Rattle.gauge.specs.Polyakov.{polyakov_trace}
use Rattle.gauge.proofs.Su3Lattice.polyakov_loop.Given as goal

abbrev pub invariant-loop-k : goal.invariant-loop-k
invariant-loop-k l = l.s ≡ fold_to cadd czero (λ k. polyakov_trace l.self.extents.d (link_of l.self.extents.d l.self.links.now) k) l.k
