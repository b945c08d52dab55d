-- `all` over a list's references, by the test of each element; and the test of all of them by a fold.
use Rattle.std.proofs.Common.{Bool, true, false, ◌&&◌, List, [], ◌∷◌, Option, ◌≡◌, Bor, refl, ◌∙◌}
use denote.Param.Members.{Mut}
use Rattle.std.specs.Slice.Iter.{iter_rest}
use Rattle.std.specs.Iterator.{YieldsThen}
use Rattle.std.specs.Fn.{Called}
use Rattle.std.specs.List.{FoldsTo}
use Rattle.std.specs.Option.{MatchOption}
use Rattle.std.proofs.iter.Yields.{fronts}
use Rattle.std.specs.List.{fold, list_all}
use Rattle.std.proofs.Math.Bool.{and_assoc}
use Rattle.std.proofs.lemmas.Iterator.{YieldsList-from_slice}
use Rattle.std.proofs.lemmas.Iterator.Search.{all_from_yields_List}

module _ {A F : Type 0} {g : Mut F (Bor A × Unit {0}) Bool} {f : F} {r : Bool} where
  pub all_over : {s u : _} (test : A → Bool) (xs : List A)
      → (ys : List (Bor A)) × (o : Option (Bor A)) × (j : F) × YieldsThen fronts s ys o u × FoldsTo (λ p x q. Called g p (x, tt) true q) f ys j × MatchOption o (r ≡ true) (λ x. (r ≡ false) × ((h : F) × Called g j (x, tt) false h))
      → ((x : Bor A) (b : Bool) (q : F) → Called g f (x, tt) b q → (q ≡ f) × (b ≡ test x.now)) → iter_rest s ≡ xs → r ≡ list_all test xs
  all_over {s} {u} test xs ran called e = all_from_yields_List test u f r ran (YieldsList-from_slice xs e) called

module _ {A : Type 0} (test : A → Bool) where
  after : (b : Bool) (xs : List A) → fold (λ all x. all && test x) b xs ≡ b && list_all test xs
  after false [] = refl
  after true [] = refl
  after b (x ∷ xs) = after (b && test x) xs ∙ and_assoc b (test x) (list_all test xs)

  -- with no early exit
  pub all_folded : (xs : List A) {b : Bool} → b ≡ fold (λ all x. all && test x) true xs → b ≡ list_all test xs
  all_folded xs e = e ∙ after true xs
