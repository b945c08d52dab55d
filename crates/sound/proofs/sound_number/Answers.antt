use Rattle.sound.proofs.Unsound.{sound_by}
use Rattle.sound.proofs.sound_number.Goals as goal

pub returns-then-x : goal.returns-then-x
returns-then-x c = rw (← (sound_by c.args.x), c.if-x.true)

pub returns-else-x : goal.returns-else-x
returns-else-x c = rw (← (sound_by c.args.x), c.if-x.false)
