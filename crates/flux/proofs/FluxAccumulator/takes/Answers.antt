use Rattle.std.proofs.Common.{rules, ◌≡◌, false, sym, ◌∙◌, eqb-true}
use borrow.Author.Tests.{not-false}
use Rattle.rows.specs.Refusals.{first_refusal, refusal_in}
use Rattle.flux.specs.Situations.{other_count, other_grid, full_samples}
use Rattle.flux.proofs.Grids.{other_is, same_cells}
use Rattle.flux.proofs.FluxAccumulator.takes.Goals as goal
use Rattle.flux.proofs.FluxAccumulator.takes.Goals.{then-count-self, else-count-self, then-ne, else-ne}

pub returns-else-self : goal.returns-else-self
unfolding first_refusal refusal_in other_count full_samples
returns-else-self c =
    elim c.if-ne.branch [
      | then-ne w ↦ absurd cc
      | else-ne w ↦ elim c.if-count-self.branch [
        | then-count-self v ↦ absurd (v.if-count-self.true (eqb-true _ _ (not-false _ (sym v.value-is ∙ w.if-ne.false))))
        | else-count-self v ↦
            let same : other_grid c.args.self.now.n c.args.extents.d ≡ false = sym (other_is _ _ c.args.extents.fits v.space.ensures) ∙ search rules in
            record { refusal = search rules; made = (search rules, same_cells _ _ c.args.extents.fits same) }
      ]
    ]
