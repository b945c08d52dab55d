-- When all numbers of a field's list are finite.
use Prim.Native.Nat.{ℕ, ◌+◌, ◌*◌, ◌/◌, ◌%◌, ◌<◌}
use mathlib.Core.Bool.{Bool, true, cond, and-eq-true_iff}
use mathlib.Core.List.{List}
use mathlib.Core.Path.{◌≡◌, ap, sym, ◌∙◌}
use native.Mathlib.Decide.{ℕ_discrete}
use native.Mathlib.Omega.{arith}
use lib.Dec.{eqb}
use lib.Ieee.{nan}
use lib.Ieee.Scale.{finite}
use lib.ListN.{get_or}
use borrow.Author.Tests.{eq-eqb, ne_eqb}
use Rattle.folds.specs.Folds.{all_below}
use Rattle.folds.proofs.Laws.{all_each, each_all}
use Rattle.mat.specs.declared.Su3.{Su3}
use Rattle.complex.specs.Complex.{finite_entry}
use Rattle.mat.specs.Matrix.{ent, finite_matrix}
use Rattle.geometry.specs.Radix.{volume}
use Rattle.links.specs.Field.{Field}
use Rattle.gauge.specs.Field.{part_of, list_of}
use Rattle.gauge.proofs.Lists.{length-list, number_at}
use Rattle.rows.specs.Finite.{finite_numbers}
use Rattle.field_checks.proofs.Listed.{same_test}

-- a matrix is finite where its eighteen numbers are
part_finite : (u : Su3) → finite_matrix u ≡ true → (i : ℕ) → i < 18 → finite (part_of u i) ≡ true
unfolding finite_matrix finite_entry part_of
part_finite u h i g = go (ℕ_discrete (i % 2) 0)
  where
    both : (finite (ent u (i / 2)).re ≡ true) × (finite (ent u (i / 2)).im ≡ true)
    both = (and-eq-true_iff _ _).0 (all_each (λ k. finite_entry (ent u k)) 9 (i / 2) (omega arith) h)

    go : Dec (i % 2 ≡ 0) → finite (cond (eqb (i % 2) 0) (ent u (i / 2)).re (ent u (i / 2)).im) ≡ true
    go (yes z) = rw (eq-eqb (i % 2) 0 z) both.0
    go (no z) = rw (ne_eqb (i % 2) 0 z) both.1

parts_finite : (u : Su3) → ((i : ℕ) → i < 18 → finite (part_of u i) ≡ true) → finite_matrix u ≡ true
unfolding finite_matrix finite_entry part_of
parts_finite u h = each_all _ 9 (λ k g. rw (re k g, im k g))
  where
    re : (k : ℕ) → k < 9 → finite (ent u k).re ≡ true
    re k g =
        let even : 2 * k % 2 ≡ 0 = omega arith in
        let half : 2 * k / 2 ≡ k = omega arith in
        rw (eq-eqb (2 * k % 2) 0 even, half) at (h (2 * k) (omega arith))

    im : (k : ℕ) → k < 9 → finite (ent u k).im ≡ true
    im k g =
        let odd : (2 * k + 1) % 2 ≡ 0 → ⊥ = λ z. omega arith in
        let half : (2 * k + 1) / 2 ≡ k = omega arith in
        rw (ne_eqb ((2 * k + 1) % 2) 0 odd, half) at (h (2 * k + 1) (omega arith))

pub finite_links : (d : List ℕ) (U : Field) → all_below (λ j. finite_matrix (U (j / volume d) (j % volume d))) (4 * volume d) ≡ finite_numbers (list_of d U)
unfolding finite_numbers
finite_links d U = rw (length-list d U) (same_test _ _ there back)
  where
    links : ℕ → Bool
    links j = finite_matrix (U (j / volume d) (j % volume d))

    numbers : ℕ → Bool
    numbers k = finite (get_or (list_of d U) k nan)

    there : all_below links (4 * volume d) ≡ true → all_below numbers (72 * volume d) ≡ true
    there h =
        each_all _ (72 * volume d) (λ k g.
        ap finite (number_at d U k g) ∙ part_finite _ (all_each links (4 * volume d) (k / 18) (omega arith) h) (k % 18) (omega arith))

    back : all_below numbers (72 * volume d) ≡ true → all_below links (4 * volume d) ≡ true
    back h =
        each_all _ (4 * volume d) (λ j g. parts_finite _ (λ i b.
        let k : 18 * j + i < 72 * volume d = omega arith in
        let link : (18 * j + i) / 18 ≡ j = omega arith in
        let part : (18 * j + i) % 18 ≡ i = omega arith in
        let e = rw (link, part) at (number_at d U (18 * j + i) k) in
        ap finite (sym e) ∙ all_each numbers (72 * volume d) (18 * j + i) k h))
