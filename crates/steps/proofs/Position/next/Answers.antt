use native.Mathlib.Nat.{mod-lt}
use Rattle.steps.proofs.Position.next.Goals as goal
use Rattle.steps.proofs.Spots.{next_spot}
use Rattle.geometry.proofs.Stride.{sites_last}

pub invariant_of-self : goal.invariant_of-self
invariant_of-self c =
    let here = c.args.self.now in
    let pos = here.strides.extents.few.0 in
    let site = rw (sites_last _ here.strides.extents.fits here.strides.are) at c.wrap.ensures in
    record { below = rw site (mod-lt _ pos); spot = next_spot _ pos _ here.spot here.below site c.next_coords.ensures }
