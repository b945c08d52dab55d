use Rattle.std.proofs.Common.{◌≡◌, ◌*◌, ◌∙◌, arith}
use Rattle.geometry.specs.Radix.{volume}
use Rattle.lattice.proofs.ColdLinks.{identities_next, identities_are_cold}
use Rattle.lattice.proofs.cold_start.set_identities.Goals as goal

pub loop-k-preserved : goal.loop-k-preserved
loop-k-preserved c =
    let room = c.loop-k-test.true in
    let sites = c.sites-k-end.ensures in
    rw c.store.ensures (identities_next _ c.loop-k.k (omega (arith, c.loop-k.auto.links, c.requires)) c.loop-k.invariant)

pub returns : goal.returns
returns c =
    let sites = c.sites-k-end.ensures in
    let all : c.loop-k.k ≡ 4 * volume c.args.extents.d = omega (arith, c.loop-k.auto.k-end, c.loop-k-test.false) in
    identities_are_cold _ _ (c.loop-k.auto.links ∙ c.requires) (rw all at c.loop-k.invariant)
