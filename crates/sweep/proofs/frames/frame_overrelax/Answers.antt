use Rattle.std.proofs.Common.{◌≡◌, ◌-◌, min, None, rules}
use Rattle.rows.specs.Refusals.{first_refusal, refusal_in}
use Rattle.geometry.specs.Order.{half_of}
use Rattle.sweep.specs.Jobs.{frame_refusal}
use Rattle.sweep.proofs.Laws.{frame_accepted}
use Rattle.sweep.proofs.FrameSites.{frame_segment, frame_count}
use Rattle.sweep.proofs.frames.frame_overrelax.Goals as goal

pub returns : goal.returns
unfolding half_of first_refusal refusal_in
returns c =
    let job = c.args.job.now in
    let set = c.in_ok-set.set in
    let made = c.in_ok-set.ensures.made in
    let after = c.advance-stuck.ensures in
    let none : frame_refusal job c.args.links.now ≡ None = search rules in
    let shape = rw made.extents at set.extents.fits in
    let two = rw made.parity at set.two in
    let least : c.min-count.result ≡ min c.args.size (half_of job.extents - job.visited) = rw (c.sites.ensures, c.in_ok-extents.ensures.made.0) at c.min-count.ensures in
    let sites = frame_segment job shape two c.args.size least in
    let many = frame_count job shape two c.args.size least in
    rw (after.links, after.stuck, made.extents, made.direction, made.parity, sites, many) (frame_accepted _ _ _ none)
