use Rattle.std.proofs.Common.{rules}
use Rattle.geometry.specs.Steps.{fwd_of, bwd_of, neighbours_of}
use Rattle.geometry.specs.Range.{range}
use Rattle.steps.proofs.Spots.{four_by}
use Rattle.steps.proofs.Position.neighbours.Goals as goal

pub returns : goal.returns
unfolding neighbours_of range
returns c =
    let here = c.args.self.now in
    let up = c.from_fn.ensures.items in
    let down = c.from_fn-2.ensures.items in
    rw (
      four_by (fwd_of here.strides.extents.d here.at.site) c.from_fn.result up.long (search rules) (search rules) (search rules) (search rules),
      four_by (bwd_of here.strides.extents.d here.at.site) c.from_fn-2.result down.long (search rules) (search rules) (search rules) (search rules),
    )
