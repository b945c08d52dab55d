use Rattle.std.proofs.Common.{◌∙◌}
use native.Mathlib.Nat.{zero-mul}
use Rattle.geometry.specs.Range.{range}
use Rattle.fields.specs.Places.{placed}
use Rattle.fields.proofs.Placed.{store_next}
use Rattle.fields.proofs.places.store.Goals as goal

pub loop-k-init : goal.loop-k-init
unfolding placed range
loop-k-init g c = rw (zero-mul g.row.N)

pub loop-k-preserved : goal.loop-k-preserved
loop-k-preserved g c =
    let e = c.copy_from_slice.ensures in
    store_next _ g.row.N _ c.loop-k.k c.loop-k.list _ c.loop-k-test.true (cc) (e.after ∙ c.numbers.ensures) e.len c.loop-k.invariant
