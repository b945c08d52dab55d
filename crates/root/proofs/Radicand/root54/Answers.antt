use Rattle.root.proofs.Digits.{one, none}
use Rattle.root.proofs.Radicand.root54.Goals as goal
use Rattle.root.proofs.Radicand.root54.Goals.{then-c-e, else-c-e}

pub loop-preserved : goal.loop-preserved
loop-preserved c =
    let s = c.loop.invariant in
    let l = c.loop-test.true in
    elim c.if-c-e.branch [ then-c-e w ↦ rw (w.r-is, w.d-is) (one s l w.if-c-e.true) | else-c-e w ↦ rw (w.r-is, w.d-is) (none s l w.if-c-e.false) ]
