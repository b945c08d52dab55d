use Rattle.std.proofs.Common.{◌≡◌}
use Rattle.gauge.specs.Polyakov.{later_of}
use Rattle.paths.proofs.Walker.later.Given as goal

abbrev pub invariant-loop : goal.invariant-loop
invariant-loop l = record {
  field : l.self.lattice ≡ l.initial.self.lattice;
  end : l.self.here.at.site ≡ later_of l.initial.self.lattice.extents.d l.initial.self.here.at.site l.counter;
}
