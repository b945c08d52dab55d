-- A staple reads the links of its six staples alone, and none of the links that a half-sweep of its direction and parity writes.
use Prim.Native.Nat.{ℕ, zero, suc, ◌≤◌}
use mathlib.Core.Bool.{cond}
use mathlib.Core.List.{List}
use mathlib.Core.Path.{◌≡◌, refl}
use native.Mathlib.Decide.{ℕ_discrete}
use native.Mathlib.Omega.{arith}
use lib.Dec.{eqb}
use borrow.Author.Tests.{eq-eqb, ne_eqb}
use Rattle.geometry.specs.Steps.{fwd_of, bwd_of}
use Rattle.geometry.proofs.Neighbour.{fwd_below, bwd_below, fwd_flips, bwd_flips}
use Rattle.links.specs.Field.{Field}
use Rattle.gauge.specs.Staple.{add_staples, staples_to, staple_of, SameAround, StapleIsLocal, NoneAround}

module _ (d : List ℕ) (U W : Field) (n mu : ℕ) (same : SameAround d U W n mu) where
  staples_same : (k : ℕ) → k ≤ 4 → staples_to d U n mu k ≡ staples_to d W n mu k
  unfolding staples_to add_staples
  staples_same zero h = refl
  staples_same (suc nu) h = go (staples_same nu (omega arith)) (ℕ_discrete nu mu)
    where
      go : staples_to d U n mu nu ≡ staples_to d W n mu nu → Dec (nu ≡ mu)
          → cond (eqb nu mu) (staples_to d U n mu nu) (add_staples d U n mu nu (staples_to d U n mu nu))
          ≡ cond (eqb nu mu) (staples_to d W n mu nu) (add_staples d W n mu nu (staples_to d W n mu nu))
      go ih (yes e) = rw (eq-eqb nu mu e) ih
      go ih (no e) = rw (ne_eqb nu mu e, ih, same.ahead nu h e, same.above nu h e, same.here nu h e, same.corner nu h e, same.below nu h e, same.behind nu h e)

pub staple_is_local : StapleIsLocal
unfolding staple_of
staple_is_local d U W n mu same = staples_same d U W n mu same 4 (omega arith)

pub none_around : NoneAround
none_around d shape mu p U W axis same n inside here = record {
  ahead = λ nu h e. same nu (fwd_of d n mu) h (fwd_below d shape n mu axis) (λ f g. e f);
  above = λ nu h e. same mu (fwd_of d n nu) axis (fwd_below d shape n nu h) (λ f g. absurd (omega (arith, fwd_flips d shape n nu h, here)));
  here = λ nu h e. same nu n h inside (λ f g. e f);
  corner = λ nu h e. same nu (bwd_of d (fwd_of d n mu) nu) h (bwd_below d shape (fwd_of d n mu) nu h) (λ f g. e f);
  below = λ nu h e. same mu (bwd_of d n nu) axis (bwd_below d shape n nu h) (λ f g. absurd (omega (arith, bwd_flips d shape n nu h, here)));
  behind = λ nu h e. same nu (bwd_of d n nu) h (bwd_below d shape n nu h) (λ f g. e f);
}
