use Rattle.std.proofs.Common.{◌≡◌, ◌-◌}
use Rattle.gauge.specs.Field.{link_of, list_of}
use Rattle.visits.specs.Visits.{segment, overrelaxed_field, stuck_count}
use Rattle.visits.proofs.LinkSet.advance.Given as goal

-- what the loop leaves of the sites so far
abbrev pub invariant-loop-k : goal.invariant-loop-k
invariant-loop-k l = record {
  links : l.links ≡ list_of l.self.extents.d (overrelaxed_field l.self.extents.d l.self.direction (link_of l.self.extents.d l.initial.links) (segment l.self.extents.d l.self.parity l.from (l.k - l.from)));
  stuck : l.stuck ≡ stuck_count l.self.extents.d l.self.direction (link_of l.self.extents.d l.initial.links) (segment l.self.extents.d l.self.parity l.from (l.k - l.from));
}
