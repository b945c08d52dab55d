-- Row 10's test of a list that is known place by place.
use Prim.Native.Nat.{ℕ}
use mathlib.Core.Bool.{Bool, true, false}
use mathlib.Core.List.{map}
use mathlib.Core.Path.{◌≡◌, refl, ap, sym, ◌∙◌}
use lib.Ieee.{Float, nan}
use lib.Ieee.Scale.{finite}
use lib.ListN.{get_or}
use Rattle.folds.specs.Folds.{all_below}
use Rattle.folds.proofs.Laws.{all_each, each_all}
use Rattle.geometry.specs.Range.{range}
use Rattle.geometry.proofs.Range.{length-listed, listed_at}
use Rattle.rows.specs.Finite.{finite_numbers}

-- two tests that imply each other
pub same_test : (a b : Bool) → (a ≡ true → b ≡ true) → (b ≡ true → a ≡ true) → a ≡ b
same_test true b f g = sym (f refl)
same_test false true f g = g refl
same_test false false f g = refl

pub finite_listed : (f : ℕ → Float) (n : ℕ) → all_below (λ k. finite (f k)) n ≡ finite_numbers (map f (range n))
unfolding finite_numbers
finite_listed f n =
    rw (length-listed f n)
    (same_test _ _
    (λ h. each_all _ n (λ k g. ap finite (listed_at f nan n k g) ∙ all_each (λ k. finite (f k)) n k g h))
    (λ h. each_all _ n (λ k g. ap finite (sym (listed_at f nan n k g)) ∙ all_each (λ k. finite (get_or (map f (range n)) k nan)) n k g h)))
