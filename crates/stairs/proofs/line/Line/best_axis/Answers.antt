use Rattle.std.proofs.Common.{rules, arith, ap, ◌∙◌}
use Rattle.stairs.specs.Line.{line_dist}
use Rattle.stairs.proofs.Whole.{moved}
use Rattle.stairs.proofs.Best.{best_found, best_low, left_better, left_kept, none_more, differs_lem, same_lem}
use Rattle.stairs.proofs.line.Line.best_axis.Goals as goal
use Rattle.stairs.proofs.line.Line.best_axis.Goals.{then-p-a+then-is_none_or, then-p-a+else-is_none_or, else-p-a}

pub loop-a-preserved : goal.loop-a-preserved
loop-a-preserved c =
    let p = c.args.p in
    let d = c.args.self.d in
    let a = c.loop-a.a in
    elim c.if-p-a.branch [
      | then-p-a+then-is_none_or w ↦
          let e = w.line_dist-dist.ensures ∙ ap (λ z. line_dist z d) (moved p d a c.requires (omega arith) (search rules) w.signum.ensures.value) in
          left_better p d a w.is_none_or.result c.loop-a.invariant (differs_lem _ _ (search rules) (search rules) w.if-p-a.true) e (search rules) w.if-is_none_or.true w.best-is
      | then-p-a+else-is_none_or w ↦
          let e = w.line_dist-dist.ensures ∙ ap (λ z. line_dist z d) (moved p d a c.requires (omega arith) (search rules) w.signum.ensures.value) in
          left_kept p d a w.is_none_or.result c.loop-a.invariant (differs_lem _ _ (search rules) (search rules) w.if-p-a.true) e (search rules) w.if-is_none_or.false w.best-is
      | else-p-a w ↦ none_more p d a c.loop-a.invariant (same_lem _ _ (search rules) (search rules) w.if-p-a.false) w.best-is
    ]

pub returns : goal.returns
returns c =
    let found = best_found c.args.p c.args.self.d {best = c.loop-a.best} {a = c.loop-a.a} (omega arith) c.loop-a.invariant (search rules) in
    record { axis = found; in_space = rw found (best_low c.args.p c.args.self.d) }
