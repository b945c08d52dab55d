use Rattle.std.proofs.Common.{rules, ◌≡◌, Option, Err, Some, None, length, drop, refl, sym, ap, ◌∙◌}
use Rattle.rows.specs.Refusals.{first_refusal, refusal_in, unless}
use Rattle.rows.specs.declared.Refusal.{Refusal}
use Rattle.rows.proofs.Refusals.{refusal_answered}
use Rattle.flux.specs.declared.FluxAccumulator.{FluxAccumulator}
use Rattle.flux.specs.Situations.{bad_per_density, bad_scratch}
use Rattle.flux.specs.Sums.{Addition, addition_of, added_of, added_grid, with_sums}
use Rattle.flux.specs.Calls.{inputs_refusal, loop_at, Added}
use Rattle.flux.proofs.Added.{added_refused, added_stored}
use Rattle.flux.proofs.FluxAccumulator.add.Goals as goal
use Rattle.flux.proofs.FluxAccumulator.add.Goals.{After-parameters, After-store}

-- the grid and the field have the extents that are handed in
handed : (c : After-parameters) → (c.in_ok-grid.field-0.n ≡ c.args.self.now.n) × (c.in_ok-extents.extents.d ≡ c.args.extents)
handed c = (search rules, search rules)

pub returns-in_err-quarks : goal.returns-in_err-quarks
unfolding first_refusal refusal_in bad_per_density bad_scratch
returns-in_err-quarks c =
    let own = handed (goal.at.returns-in_err-quarks c).After-parameters in
    let answer : c.from_residual-in_err-quarks.result ≡ Err c.in_err-quarks.field-0.0 = search rules in
    rw answer (added_refused (loop_at _) _ (search rules))

pub returns-in_err-takes : goal.returns-in_err-takes
unfolding first_refusal refusal_in bad_per_density bad_scratch
returns-in_err-takes c =
    let own = handed (goal.at.returns-in_err-takes c).After-parameters in
    let answer : c.from_residual-in_err-takes.result ≡ Err c.in_err-takes.field-0.0 = search rules in
    rw answer (added_refused (loop_at _) _ (search rules))

-- an addition that no row refuses before its sums are worked out: it ends as they are stored
module _ (c : After-store) where
  abbrev x : Addition
  x = let q = c.args in addition_of q.self.now q.extents q.count q.links.now q.densities.now q.grid.now q.scratch.now

  own : c.in_ok-extents.extents.d ≡ c.args.extents
  own = search rules

  loops : c.added-sums.result.w ≡ (added_of (loop_at x) x).w
  unfolding loop_at added_of with_sums
  loops = search rules

  sums : c.added-sums.result.s ≡ (added_of (loop_at x) x).s
  unfolding added_of with_sums
  sums = search rules

  stored : (o : Option Refusal) {acc : FluxAccumulator} → refusal_in c.store.result ≡ o → acc ≡ unless o (added_of (loop_at x) x) x.acc → Added (loop_at x) x c.store.result acc c.store.new.grid c.store.new.scratch
  unfolding first_refusal refusal_in bad_per_density bad_scratch loop_at added_grid
  stored o is same =
      let cells : c.in_ok-grid.field-0.n ≡ c.args.self.now.n = search rules in
      let here = own in
      let none : inputs_refusal x ≡ None = search rules in
      let grid : drop (length x.grid) c.added-sums.new.scratch ≡ added_grid (loop_at x) x = search rules in
      added_stored (loop_at x) x c.added-sums.result.w c.added-sums.result.s c.added-sums.new.scratch o none loops sums grid c.added-sums.auto.scratch (sym (refusal_answered _ tt) ∙ ap refusal_in (sym c.store.ensures.answer) ∙ is) same c.store.ensures

pub returns-in_err-store : goal.returns-in_err-store
unfolding refusal_in unless
returns-in_err-store c =
    let answer : c.from_residual-in_err-store.result ≡ c.store.result = search rules in
    rw answer (stored (goal.at.returns-in_err-store c).After-store (Some c.in_err-store.field-0.0) (rw c.in_err-store.was refl) refl)

pub returns : goal.returns
unfolding refusal_in unless added_of with_sums
returns c =
    let s = (goal.at.returns c).After-store in
    rw (← c.in_ok-store.was) (stored s None (rw c.in_ok-store.was refl) (rw (← sums s, ← loops s, c.more_samples-self.ensures, c.sites-2.ensures, own s) refl))
