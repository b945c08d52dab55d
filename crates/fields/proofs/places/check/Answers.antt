use Rattle.std.proofs.Common.{◌≡◌, rules, tests, arith, sym, ◌∙◌, true, false}
use Rattle.rows.specs.Finite.{finite_numbers, bad_numbers}
use Rattle.rows.specs.Refusals.{first_refusal, answered}
use Rattle.folds.proofs.Laws.{all_none, all_next, all_fails, all_done}
use Rattle.fields.specs.Places.{placed}
use Rattle.fields.proofs.Placed.{finite_placed}
use Rattle.fields.proofs.places.check.Goals as goal

pub loop-k-init : goal.loop-k-init
loop-k-init g c = all_none _

pub returns-in_err-all_finite : goal.returns-in_err-all_finite
unfolding first_refusal answered bad_numbers
returns-in_err-all_finite g c =
    let bad : finite_numbers (g.W.Filling.numbers c.args.what.now c.loop-k.k) ≡ false = search (rules, tests) in
    let all : finite_numbers (placed (g.W.Filling.numbers c.args.what.now) (g.W.Filling.places c.args.what.now)) ≡ false =
    sym (finite_placed _ _) ∙ all_fails _ _ c.loop-k.k (omega arith) bad in
    search (rules, all)

pub loop-k-preserved : goal.loop-k-preserved
unfolding first_refusal answered bad_numbers
loop-k-preserved g c =
    let fine : finite_numbers (g.W.Filling.numbers c.args.what.now c.loop-k.k) ≡ true = search (rules, tests) in
    all_next _ _ c.loop-k.invariant fine

pub returns : goal.returns
unfolding first_refusal answered bad_numbers
returns g c =
    let all : true ≡ finite_numbers (placed (g.W.Filling.numbers c.args.what.now) (g.W.Filling.places c.args.what.now)) =
    all_done _ {m = c.loop-k.k} (omega arith) c.loop-k.invariant ∙ finite_placed _ _ in
    search (rules, all)
