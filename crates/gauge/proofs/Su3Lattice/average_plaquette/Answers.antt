use Rattle.std.proofs.Common.{refl, sym, ap, ◌∙◌, ◌<◌}
use native.Mathlib.Nat.{mod-eq_of_lt}
use Rattle.steps.specs.declared.Strides.{Strides}
use Rattle.folds.proofs.Laws.{fold_none, fold_next}
use Rattle.gauge.proofs.Su3Lattice.average_plaquette.Goals as goal

pub loop-init : goal.loop-init
loop-init c =
    let some : 0 < c.sites-v.result = rw c.sites-v.ensures c.args.self.now.extents.few.0 in
    record { field = c.new-here.ensures.field; site = c.new-here.ensures.start ∙ sym (mod-eq_of_lt some); summed = fold_none _ _ _ }

pub loop-preserved : goal.loop-preserved
loop-preserved c =
    let i = c.loop.invariant in
    let site = i.site ∙ mod-eq_of_lt c.loop-test.true in
    record {
      field = ap (λ (s : Strides). s.extents) c.next.ensures.field ∙ i.field;
      site = rw (i.field, site, ← c.sites-v.ensures) at c.next.ensures.end;
      summed = fold_next _ _ _ _ i.summed (rw site at c.planes_sum-sum.ensures) refl;
    }
