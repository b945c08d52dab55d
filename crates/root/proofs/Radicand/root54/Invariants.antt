-- The loop's invariant and what a turn makes of it are in `proofs/Digits.antt`.
use Rattle.root.proofs.Digits.{State}
use Rattle.root.proofs.Radicand.root54.Given as goal

abbrev pub invariant-loop : goal.invariant-loop
invariant-loop l = State l.fn.self.a l.r l.d l.t l.counter
