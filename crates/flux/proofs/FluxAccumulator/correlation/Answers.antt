use Rattle.std.proofs.Common.{rules, refl, sym, ap, ℕ, ◌+◌, ◌*◌, length, None, map, ◌∙◌, ◌≡◌}
use Rattle.std.specs.List.{slice_range}
use Rattle.rows.specs.Refusals.{first_refusal, refusal_in}
use Rattle.geometry.specs.Radix.{volume}
use Rattle.sums.specs.Means.{ratio}
use Rattle.flux.specs.Means.{correlation_list}
use Rattle.flux.specs.Situations.{bad_correlation, bad_density, bad_per_density, no_means, no_samples, correlation_rows}
use Rattle.flux.proofs.Correlation.{correlations_are, correlation_refused, correlation_made}
use Rattle.flux.proofs.FluxAccumulator.correlation.Goals as goal
use Rattle.flux.proofs.FluxAccumulator.correlation.Goals.{After-ratios_finite}

-- a call that no row refuses before row 10
module _ (c : After-ratios_finite) where
  own : c.in_ok-grid.field-0.n ≡ c.args.self.n
  own = search rules

  none : first_refusal (correlation_rows c.args.self c.args.k (length c.args.grid.now) (length c.args.out.now)) ≡ None
  unfolding first_refusal refusal_in bad_correlation bad_density bad_per_density no_means no_samples
  none = let same = own in search rules

  abbrev first : ℕ
  first = c.args.k * c.cells-cells.result

  are : map (ratio c.nearest_u64_to_f64-samples.result c.product_of_means-means.result) (slice_range c.args.grid.now first (first + c.cells-cells.result)) ≡ correlation_list c.args.self c.args.k c.args.grid.now
  unfolding refusal_in bad_per_density
  are =
      let q = c.args in
      let same = own in
      correlations_are q.self q.k q.grid.now c.nearest_u64_to_f64-samples.ensures c.product_of_means-means.ensures refl (c.cells-cells.ensures.volume ∙ ap volume own) c.if-k-self.false (search rules)

pub returns-then-not-ratios_finite : goal.returns-then-not-ratios_finite
returns-then-not-ratios_finite c =
    let s = (goal.at.returns-then-not-ratios_finite c).After-ratios_finite in
    correlation_refused _ _ _ c.args.out.now _ _ (none s) (are s) (sym c.ratios_finite.ensures ∙ c.if-not-ratios_finite.true)

pub returns : goal.returns
returns c =
    let s = (goal.at.returns c).After-ratios_finite in
    correlation_made _ _ _ c.args.out.now _ _ (none s) (are s) (sym c.ratios_finite.ensures ∙ c.if-not-ratios_finite.false) c.store_ratios.ensures
