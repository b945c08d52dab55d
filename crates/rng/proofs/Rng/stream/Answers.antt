use Rattle.std.proofs.Common.{rules}
use Rattle.rng.specs.Stream.{stream_of, key_of}
use Rattle.rng.proofs.Seeded.{seeded}
use Rattle.rng.proofs.Rng.stream.Goals as goal

pub returns : goal.returns
unfolding stream_of key_of
returns c =
    let h = c.from_fn.ensures.items.each in
    rw (← c.splitmix-key.ensures.word, ← c.wrapping_mul.ensures, ← c.wrapping_mul-2.ensures, ← c.wrapping_mul-3.ensures) (
    seeded _ c.from_fn.result h.0.0.now h.4.0.0.now h.4.4.0.0.now c.from_fn.ensures.items.long
    (search rules) (search rules) (search rules) (search rules) (search rules) (search rules) (search rules))
