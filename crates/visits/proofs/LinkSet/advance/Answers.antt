use Rattle.std.proofs.Common.{◌≡◌, ◌+◌, ◌-◌, ◌∙◌, cond, sym, refl, add-zero, arith}
use Rattle.visits.specs.Visits.{stuck_among}
use Rattle.visits.proofs.Joined.{visits_none, visit_next, few_stuck}
use Rattle.visits.proofs.LinkSet.advance.Goals as goal
use Rattle.visits.proofs.LinkSet.advance.Goals.{Joined-is_err, then-is_err, else-is_err}

pub loop-k-init : goal.loop-k-init
unfolding stuck_among
loop-k-init c =
    let none : c.args.from - c.args.from ≡ 0 = omega arith in
    record { links = rw none (visits_none _ _ _ c.requires.fits); stuck = rw none refl }

-- how the count went on
counted : (c : Joined-is_err) → c.if-is_err.stuck ≡ c.loop-k.stuck + cond c.is_err.result 1 0
counted c =
    elim c.if-is_err.branch [
      | then-is_err w ↦ rw w.if-is_err.true w.stuck-is
      | else-is_err w ↦ rw w.if-is_err.false (w.stuck-is ∙ sym (add-zero _))
    ]

pub loop-k-preserved : goal.loop-k-preserved
loop-k-preserved c =
    let set = c.args.self in
    let inv = c.loop-k.invariant in
    let visited = c.visit.ensures in
    let next = visit_next _ set.extents.fits _ _ set.axis set.two _ _ _ c.loop-k.k _ (omega arith) (omega arith) c.nth-site.ensures inv.links inv.stuck (c.is_err.ensures.value ∙ visited.stuck) in
    record { links = visited.links ∙ next.0; stuck = counted c ∙ next.1 }

pub returns : goal.returns
returns c =
    let set = c.args.self in
    let all : c.loop-k.k - c.args.from ≡ c.args.count = omega arith in
    let stuck = rw all at c.loop-k.invariant.stuck in
    record { stuck = stuck; links = rw all at c.loop-k.invariant.links; few = few_stuck _ _ set.extents.fits set.two _ _ _ _ stuck }
