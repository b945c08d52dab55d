use Rattle.std.proofs.Common.{◌≡◌, ◌%◌}
use Rattle.gauge.specs.Field.{link_of}
use Rattle.gauge.specs.Plaquette.{sites_sum}
use Rattle.gauge.proofs.Su3Lattice.average_plaquette.Given as goal

abbrev pub invariant-loop : goal.invariant-loop
invariant-loop l = record {
  field : l.here.strides.extents ≡ l.self.extents;
  site : l.here.at.site ≡ l.counter % l.v;
  summed : l.sum ≡ sites_sum l.self.extents.d (link_of l.self.extents.d l.self.links.now) l.counter;
}
