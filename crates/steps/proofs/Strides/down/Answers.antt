use Rattle.steps.proofs.Moves.{down_inside}
use Rattle.steps.proofs.Strides.down.Goals as goal

pub returns-then-c-gt0 : goal.returns-then-c-gt0
returns-then-c-gt0 c =
    let q = c.requires in
    let steps = c.args.self.now in
    down_inside _ steps.extents.fits _ steps.are _ _ q.0 q.1 _ q.2 c.if-c-gt0.true
