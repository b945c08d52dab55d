use Rattle.lattice.specs.Cold.{Identities}
use Rattle.lattice.proofs.cold_start.set_identities.Given as goal

abbrev pub invariant-loop-k : goal.invariant-loop-k
invariant-loop-k l = Identities l.links l.k
