use Rattle.std.proofs.Common.{rules, ◌<◌, [], ◌∷◌, take, add-zero, arith}
use Rattle.std.proofs.lemmas.List.Elements.{All-append}
use Rattle.std.proofs.Math.ListN.{length-append}
use Rattle.stairs.proofs.Padded.{pushed, padded}
use Rattle.stairs.proofs.Stairs.push.Goals as goal

pub invariant_of-self : goal.invariant_of-self
invariant_of-self c =
    let n = c.self.inside.count in
    let l = c.self.inside.steps in
    let x = c.args.step in
    let h = c.self.invariant in
    let low : n < 96 = search rules in
    let front = pushed n l x low h.1 h.2 in
    (omega (arith, low), rw (front, length-append, h.1) (omega arith), padded n l x low h.1 h.2, rw front (All-append (λ s. s.axis < 4) (take n l) (x ∷ []) h.3 (search rules)))
