-- The claims of specs/Claims.antt.
use Rattle.std.proofs.Common.{◌≡◌, ℕ, ◌≤◌, Bool, true, false, cond, not, ◌&&◌, List, [], ◌∷◌, Option, None, Some, Result, Ok, Err, refl, arith}
use mathlib.Core.Bool.{and-eq-true_iff}
use borrow.Author.Tests.{not-true}
use lib.Ieee.{Float}
use Rattle.rows.specs.declared.Refusal.{Refusal}
use Rattle.rows.specs.Refusals.{first_refusal, finally, answered, unless}
use Rattle.field_checks.specs.Refusals.{RowList}
use Rattle.sums.specs.Ending.{bad_sums, zeros_like}
use Rattle.flux.specs.declared.FluxAccumulator.{FluxAccumulator}
use Rattle.flux.specs.Sums.{Addition, with_sums, added_grid, added_of}
use Rattle.flux.specs.Calls.{inputs_refusal, add_refusal, Added}
use Rattle.flux.specs.Claims.{RefusedStoresNothing, RowTenClears, AcceptedClears, SamplesGrow}

-- ## rows before the sums are worked out

abbrev last : Refusal → Bool
last Refusal.NotFinite = true
last _ = false

abbrev lacks : RowList → Bool
lacks [] = true
lacks (row ∷ rows) = not (last row.1) && lacks rows

never : (rows : RowList) → lacks rows ≡ true → first_refusal rows ≡ Some Refusal.NotFinite → ⊥
unfolding first_refusal
never [] h e = cc
never (row ∷ rows) h e =
    let both = (and-eq-true_iff (not (last row.1)) (lacks rows)).0 h in
    go row.0 (not-true _ both.0) (never rows both.1) e
  where
    go : (b : Bool) → last row.1 ≡ false → (first_refusal rows ≡ Some Refusal.NotFinite → ⊥) → cond b (Some row.1) (first_refusal rows) ≡ Some Refusal.NotFinite → ⊥
    go true other rest e = let same : row.1 ≡ Refusal.NotFinite = cc in let no = rw same at other in cc
    go false other rest e = rest e

grown : (x : Addition) (W : ℕ → Float) → x.acc.samples ≤ 18446744073709551615 → (x.acc.samples ≤ (added_of W x).samples) × ((added_of W x).samples ≤ 18446744073709551615)
unfolding added_of with_sums
grown x W top = (omega arith, omega arith)

module _ (W : ℕ → Float) (x : Addition) where
  abbrev bad : Bool
  bad = bad_sums (added_grid W x) (added_of W x).w (added_of W x).s

  tried_first : (e : Refusal) → inputs_refusal x ≡ Some e → add_refusal W x ≡ Some e
  unfolding add_refusal finally
  tried_first e h = rw h

  tried_last : (b : Bool) → inputs_refusal x ≡ None → bad ≡ b → add_refusal W x ≡ cond b (Some Refusal.NotFinite) None
  unfolding add_refusal finally first_refusal
  tried_last b h e = rw (h, e)

  module _ (r : Result (Unit {0}) Refusal) (after : FluxAccumulator) (grid scratch : List Float) where
    refused : (e : Refusal) → Added W x r after grid scratch → add_refusal W x ≡ Some e → (r ≡ Err e) × (after ≡ x.acc) × (grid ≡ x.grid)
    unfolding answered unless
    refused e a h = (rw h at a.answer, rw h at a.sums, rw h at a.list)

    made : Added W x r after grid scratch → add_refusal W x ≡ None → (r ≡ Ok tt) × (after ≡ added_of W x)
    unfolding answered unless
    made a h = (rw h at a.answer, rw h at a.sums)

    scratch_kept : (e : Refusal) → Added W x r after grid scratch → inputs_refusal x ≡ Some e → scratch ≡ x.scratch
    unfolding unless
    scratch_kept e a h = rw h at a.cleared

    scratch_cleared : Added W x r after grid scratch → inputs_refusal x ≡ None → scratch ≡ zeros_like x.scratch
    unfolding unless
    scratch_cleared a h = rw h at a.cleared

    pub refused_stores_nothing : RefusedStoresNothing W x r after grid scratch
    refused_stores_nothing a accepted ten = go (inputs_refusal x) refl bad refl
      where
        go : (o : Option Refusal) → inputs_refusal x ≡ o → (b : Bool) → bad ≡ b → (after ≡ x.acc) × (grid ≡ x.grid) × (scratch ≡ x.scratch)
        go (Some e) h b t = let kept = refused e a (tried_first e h) in (kept.1, kept.2, scratch_kept e a h)
        go None h true t = absurd (ten (refused Refusal.NotFinite a (tried_last true h t)).0)
        go None h false t = absurd (accepted (made a (tried_last false h t)).0)

    pub row_ten_clears : RowTenClears W x r after grid scratch
    row_ten_clears a ten = go (inputs_refusal x) refl bad refl
      where
        go : (o : Option Refusal) → inputs_refusal x ≡ o → (b : Bool) → bad ≡ b → (after ≡ x.acc) × (grid ≡ x.grid) × (scratch ≡ zeros_like x.scratch)
        go (Some e) h b t =
            let was = (refused e a (tried_first e h)).0 in
            let same : e ≡ Refusal.NotFinite = cc in
            absurd (never _ refl (rw same at h))
        go None h true t = let kept = refused Refusal.NotFinite a (tried_last true h t) in (kept.1, kept.2, scratch_cleared a h)
        go None h false t = let was = (made a (tried_last false h t)).0 in absurd cc

    pub accepted_clears : AcceptedClears W x r after grid scratch
    accepted_clears a accepted = go (inputs_refusal x) refl
      where
        go : (o : Option Refusal) → inputs_refusal x ≡ o → scratch ≡ zeros_like x.scratch
        go (Some e) h = let was = (refused e a (tried_first e h)).0 in absurd cc
        go None h = scratch_cleared a h

    pub samples_grow : SamplesGrow W x r after grid scratch
    samples_grow a top = go (add_refusal W x) refl
      where
        more : (x.acc.samples ≤ (added_of W x).samples) × ((added_of W x).samples ≤ 18446744073709551615)
        more = grown x W top

        go : (o : Option Refusal) → add_refusal W x ≡ o → (x.acc.samples ≤ after.samples) × (after.samples ≤ 18446744073709551615)
        go (Some e) h = rw (refused e a h).1 (omega arith, top)
        go None h = rw (made a h).1 more
