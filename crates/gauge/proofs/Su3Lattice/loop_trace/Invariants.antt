use Rattle.std.proofs.Common.{◌≡◌}
use Rattle.gauge.specs.Field.{link_of}
use Rattle.gauge.proofs.TimeLine.{line_by}
use Rattle.gauge.proofs.Su3Lattice.loop_trace.Given as goal

abbrev pub invariant-loop-t : goal.invariant-loop-t
invariant-loop-t l = l.p ≡ line_by (link_of l.self.extents.d l.self.links.now) l.first l.t
