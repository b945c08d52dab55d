use Rattle.std.proofs.Common.{◌≡◌, ◌*◌, take}
use Rattle.fields.specs.Places.{placed}
use Rattle.fields.proofs.places.store.Given as goal

abbrev pub invariant-loop-k : goal.invariant-loop-k
invariant-loop-k g l = take (l.k * g.row.N) l.list ≡ placed (g.W.Filling.numbers l.what) l.k
