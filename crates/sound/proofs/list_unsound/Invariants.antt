use Rattle.std.proofs.Common.{◌≡◌}
use Rattle.std.specs.Iterator.Adapters.{enumerate_source, enumerate_count}
use Rattle.std.specs.Slice.Iter.{chunks_exact_rest, chunks_exact_size}
use Rattle.geometry.specs.Radix.{volume}
use Rattle.sound.proofs.Unsound.{Along}
use Rattle.sound.proofs.list_unsound.Given as goal

abbrev pub invariant-loop-k : goal.invariant-loop-k
invariant-loop-k l =
    (chunks_exact_size (enumerate_source l.k-iterator) ≡ 18)
    × Along (volume l.lattice.extents.d) l.lattice.links.now l.initial.found (enumerate_count l.k-iterator) (chunks_exact_rest (enumerate_source l.k-iterator)) l.count l.found
