use Rattle.std.proofs.Common.{◌<◌, length, ◌∙◌, arith}
use Rattle.sound.specs.Sound.{sound_link, unsound_links}
use Rattle.sound.proofs.Unsound.{sound_at, along_none, along_room, along_sound, along_unsound, along_done}
use Rattle.sound.proofs.list_unsound.Goals as goal

pub loop-k-init : goal.loop-k-init
loop-k-init c =
    rw (c.into_iter-k-iterator.ensures.into_iter_gives, c.enumerate-k-items.ensures.source, c.enumerate-k-items.ensures.count, c.chunks_exact.ensures.rest)
    (c.chunks_exact.ensures.size, along_none _ _ _)

pub loop-k-preserved-then-not-all_sound : goal.loop-k-preserved-then-not-all_sound
loop-k-preserved-then-not-all_sound c =
    let i = c.loop-k.invariant in
    let s = c.in-Some.ensures.steps in
    let few = along_room _ _ _ i.1 _ _ s.0.1.0 (s.0.1.1 ∙ i.0) c.args.lattice.now.holds in
    let room : c.loop-k.count < length c.args.found.now = omega (arith, c.requires, few) in
    (s.0.0 ∙ i.0, rw (s.1, s.2) (along_unsound _ _ _ i.1 _ _ s.0.1.0 (s.0.1.1 ∙ i.0) c.if-not-all_sound.ensures room))

pub loop-k-preserved : goal.loop-k-preserved
loop-k-preserved c =
    let i = c.loop-k.invariant in
    let s = c.in-Some.ensures.steps in
    (s.0.0 ∙ i.0, rw s.2 (along_sound _ _ _ i.1 _ _ s.0.1.0 (s.0.1.1 ∙ i.0) c.if-not-all_sound.ensures))

pub returns-clause-listed : goal.returns-clause-listed
unfolding unsound_links sound_link sound_at
returns-clause-listed c = let i = c.loop-k.invariant in (along_done _ _ _ i.1 c.args.lattice.now.holds (rw i.0 at c.in-None.ensures.steps.0.1.0)).0

pub returns-clause-few : goal.returns-clause-few
returns-clause-few c = let i = c.loop-k.invariant in (along_done _ _ _ i.1 c.args.lattice.now.holds (rw i.0 at c.in-None.ensures.steps.0.1.0)).1
