use Rattle.std.proofs.Common.{◌≡◌}
use Rattle.gauge.specs.Field.{link_of}
use Rattle.gauge.specs.Paired.{matrix_of}
use Rattle.gauge.specs.Staple.{staples_to}
use Rattle.gauge.proofs.Su3Lattice.staple.Given as goal

abbrev pub invariant-loop-nu : goal.invariant-loop-nu
invariant-loop-nu l = matrix_of l.a ≡ staples_to l.self.extents.d (link_of l.self.extents.d l.self.links.now) l.n l.mu l.nu

abbrev pub invariant-loop-nu-2 : goal.invariant-loop-nu-2
invariant-loop-nu-2 l = matrix_of l.a ≡ staples_to l.self.extents.d (link_of l.self.extents.d l.self.links.now) l.n l.mu l.nu
