use Rattle.std.proofs.Common.{rules, ◌∙◌}
use Rattle.slices.proofs.SumsSoFar.{along_next, along_done}
use Rattle.slices.proofs.totals.density_sums.Goals as goal

pub loop-k-preserved : goal.loop-k-preserved
loop-k-preserved c =
    let i = c.loop-k.invariant in
    let s = c.in-Some.ensures.steps in
    (s.0.0 ∙ i.0, rw (s.1, s.2) (along_next _ _ _ i.1 _ _ s.0.1.0 (s.0.1.1 ∙ i.0) c.total.ensures))

pub returns : goal.returns
returns c =
    let densities = c.args.densities.now in
    let i = c.loop-k.invariant in
    along_done _ _ _ i.1 densities.full densities.extents.few.0 (rw i.0 at c.in-None.ensures.steps.0.1.0) c.requires (search rules)
