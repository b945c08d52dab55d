use Prim.Native.Nat.{◌≤◌}
use mathlib.Core.Path.{◌≡◌}
use Rattle.mat.specs.Product.{mul_of}
use Rattle.links.specs.Lent.{lent_of}
use Rattle.gauge.proofs.RowProducts.{dot_to}
use Rattle.gauge.proofs.traces.first_two.Given as goal

abbrev pub invariant-loop-k : goal.invariant-loop-k
invariant-loop-k l = (l.k ≤ 3) × (l.s ≡ dot_to (mul_of (lent_of l.a) (lent_of l.b)) (mul_of (lent_of l.c) (lent_of l.e)) 0 l.k) × (l.t ≡ dot_to (mul_of (lent_of l.a) (lent_of l.b)) (mul_of (lent_of l.c) (lent_of l.e)) 1 l.k)
