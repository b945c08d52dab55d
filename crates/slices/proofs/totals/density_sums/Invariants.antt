use Rattle.std.proofs.Common.{◌≡◌}
use Rattle.std.specs.Iterator.Adapters.{enumerate_source, enumerate_count}
use Rattle.std.specs.Slice.Iter.{chunks_exact_rest, chunks_exact_size}
use Rattle.geometry.specs.Radix.{volume}
use Rattle.slices.proofs.SumsSoFar.{Along}
use Rattle.slices.proofs.totals.density_sums.Given as goal

abbrev pub invariant-loop-k : goal.invariant-loop-k
invariant-loop-k l =
    let densities = l.densities in
    (chunks_exact_size (enumerate_source l.k-iterator) ≡ volume densities.extents.d)
    × Along densities.extents.d densities.numbers.now l.initial.sums (enumerate_count l.k-iterator) (chunks_exact_rest (enumerate_source l.k-iterator)) l.sums
