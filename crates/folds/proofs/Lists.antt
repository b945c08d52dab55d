-- What counted loops over a list's places leave, by std's words for lists.
use Rattle.std.proofs.Common.{ℕ, zero, suc, ◌<◌, ◌≤◌, Bool, List, map, ◌≡◌, length, get_or, take, refl, sym, ◌∙◌, add-one, arith}
use Rattle.std.specs.List.{fold, list_all}
use Rattle.std.proofs.lemmas.List.{length-map, get_or-map}
use Rattle.std.proofs.lemmas.List.Folds.{list_all_more}
use Rattle.std.proofs.lemmas.List.Sums.{fold_more}
use lib.Seq.{ext_get_or, take_all}
use Rattle.folds.specs.Folds.{fold_to, fill, all_below}
use Rattle.folds.proofs.Laws.{fill_at, length-fill}

module _ {A : Type 0} where
  fold_front : (op : A → A → A) (a : A) (l : List A) (z : A) (n : ℕ) → n ≤ length l → fold_to op a (λ k. get_or l k z) n ≡ fold op a (take n l)
  unfolding fold_to
  fold_front op a l z zero h = refl
  fold_front op a l z (suc n) h = rw (fold_front op a l z n (omega arith)) (sym (rw (add-one n) at (fold_more op a l n z (omega arith))))

  pub folded : (op : A → A → A) (a : A) (l : List A) (z : A) → fold_to op a (λ k. get_or l k z) (length l) ≡ fold op a l
  folded op a l z = fold_front op a l z (length l) (omega arith) ∙ rw (take_all (length l) l (omega arith))

  all_front : (test : A → Bool) (l : List A) (z : A) (n : ℕ) → n ≤ length l → all_below (λ k. test (get_or l k z)) n ≡ list_all test (take n l)
  unfolding all_below
  all_front test l z zero h = refl
  all_front test l z (suc n) h = rw (all_front test l z n (omega arith)) (sym (rw (add-one n) at (list_all_more test l n z (omega arith))))

  pub all_listed : (test : A → Bool) (l : List A) (z : A) → all_below (λ k. test (get_or l k z)) (length l) ≡ list_all test l
  all_listed test l z = all_front test l z (length l) (omega arith) ∙ rw (take_all (length l) l (omega arith))

  pub filled : {B : Type 0} (f : A → B) (l : List A) (z : A) (y : B) (out : List B) → length out ≡ length l → fill (λ k. f (get_or l k z)) out (length l) ≡ map f l
  filled f l z y out len =
      ext_get_or y _ (map f l) (length-fill _ out (length l) ∙ len ∙ sym (length-map l f))
      (λ k h. let g : k < length l = omega (arith, length-fill (λ i. f (get_or l i z)) out (length l), len) in fill_at _ out y (length l) k g (omega (arith, len)) ∙ sym (get_or-map f l k z y g))
