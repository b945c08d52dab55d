-- A density's cells, part of the grid's list, make its correlation.
use Rattle.std.proofs.Common.{None, Ok, Err, true, false, refl, suc, suc-mul, mul-le-mul, ℕ, ◌+◌, ◌*◌, ◌≤◌, List, map, length, ◌≡◌, ◌∙◌, sym, ap, ext_get_or, arith, take, drop, ◌<◌, length-take-le}
use Rattle.std.proofs.Math.Nat.{add-sub_cancel_left}
use Rattle.std.proofs.lemmas.List.{length-map, get_or-map, get_or-drop, get_or-take, length-drop}
use Rattle.std.specs.List.{slice_range}
use lib.Ieee.{Float, nan}
use Rattle.complex.specs.Rounded.{as_float}
use Rattle.geometry.specs.Radix.{volume}
use Rattle.geometry.specs.Range.{range}
use Rattle.geometry.proofs.Range.{length-listed, listed_at}
use Rattle.slices.specs.Slices.{number}
use Rattle.rows.specs.declared.Refusal.{Refusal}
use Rattle.rows.specs.Refusals.{first_refusal, finally, answered, unless}
use Rattle.rows.specs.Finite.{finite_numbers, bad_numbers}
use Rattle.sums.specs.Means.{ratio}
use Rattle.flux.specs.declared.FluxAccumulator.{FluxAccumulator}
use Rattle.flux.specs.Situations.{correlation_rows}
use Rattle.flux.specs.Calls.{correlation_refusal, CorrelationCall}
use Rattle.flux.specs.Means.{means_of, correlation_at, correlation_list}

-- a list's middle part, mapped
part_mapped : (f : Float → Float) (l : List Float) (first n : ℕ) → first + n ≤ length l → map f (slice_range l first (first + n)) ≡ map (λ r. f (number l (first + r))) (range n)
part_mapped f l first n h =
    let part = take n (drop first l) in
    let len : length part ≡ n = length-take-le n (drop first l) (omega (arith, length-drop first l)) in
    rw (add-sub_cancel_left first n)
    (ext_get_or nan _ _ (length-map part f ∙ len ∙ sym (length-listed _ n))
    (λ k g.
    let below : k < n = omega (arith, length-map part f, len) in
    get_or-map f part k nan nan (omega (arith, len))
    ∙ ap f (get_or-take n (drop first l) k nan below ∙ get_or-drop first l k nan)
    ∙ sym (listed_at _ nan n k below)))

-- a density's cells are in the grid's list
part_in : {k count len : ℕ} (cells : ℕ) → k < count → len ≡ count * cells → k * cells + cells ≤ len
part_in {k} {count} cells below len = omega (arith, mul-le-mul {n₁ = suc k} {m₁ = cells} {m₂ = cells} below (omega arith), suc-mul k cells, len)

pub correlations_are : (acc : FluxAccumulator) (k : ℕ) (grid : List Float) {samples means : Float} {first cells : ℕ} → samples ≡ as_float acc.samples → means ≡ means_of acc k → first ≡ k * cells → cells ≡ volume acc.n → k < acc.count → length grid ≡ acc.count * cells
    → map (ratio samples means) (slice_range grid first (first + cells)) ≡ correlation_list acc k grid
unfolding correlation_list correlation_at
correlations_are acc k grid {samples} {means} {first} {cells} a b c d below len = part_mapped (ratio samples means) grid first cells (rw c (part_in cells below len)) ∙ rw (c, a, b, d)

-- a call that no row refuses before row 10
module _ (acc : FluxAccumulator) (k : ℕ) (grid out : List Float) (f : Float → Float) (sums : List Float) (none : first_refusal (correlation_rows acc k (length grid) (length out)) ≡ None) (are : map f sums ≡ correlation_list acc k grid) where
  pub correlation_refused : finite_numbers (map f sums) ≡ false → CorrelationCall acc k grid out (Err Refusal.NotFinite) out
  unfolding correlation_refusal finally first_refusal answered unless bad_numbers
  correlation_refused h = let bad = rw are at h in record { answer = rw (none, bad) refl; list = rw (none, bad) refl }

  pub correlation_made : {exit : List Float} → finite_numbers (map f sums) ≡ true → exit ≡ map f sums → CorrelationCall acc k grid out (Ok tt) exit
  unfolding correlation_refusal finally first_refusal answered unless bad_numbers
  correlation_made h e = let good = rw are at h in record { answer = rw (none, good) refl; list = rw (none, good) (e ∙ are) }
