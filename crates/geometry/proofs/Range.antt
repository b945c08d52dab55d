-- A list by its rule: f 0, f 1, .., f (k - 1).
use Prim.Native.Nat.{ℕ, zero, suc, ◌<◌, ◌≤◌}
use mathlib.Core.List.{List, [], ◌∷◌, ◌++◌, map, map-append}
use mathlib.Core.Path.{◌≡◌, refl, ap, sym, ◌∙◌}
use native.Mathlib.Decide.{dec_lt}
use native.Mathlib.Numerals.{add-one}
use native.Mathlib.Omega.{arith}
use lib.ListN.{length, get_or, take, drop, length-append, get_or-append, take-append-drop}
use lib.Seq.{get_or_at, take_all, take-suc-set, drop-set-lt}
use Rattle.folds.specs.Folds.{fill}
use Rattle.folds.proofs.Laws.{length-fill}
use Rattle.geometry.specs.Range.{range}

module _ {A : Type 0} (f : ℕ → A) where
  pub listed_next : (k : ℕ) → map f (range (suc k)) ≡ map f (range k) ++ (f k ∷ [])
  unfolding range
  listed_next k = map-append f (range k) (k ∷ [])

  pub length-listed : (k : ℕ) → length (map f (range k)) ≡ k
  unfolding range
  length-listed zero = refl
  length-listed (suc k) = rw (listed_next k, length-append, length-listed k) (add-one k)

  pub listed_at : (z : A) (k j : ℕ) → j < k → get_or (map f (range k)) j z ≡ f j
  listed_at z zero j h = absurd (omega arith)
  listed_at z (suc k) j h = rw (listed_next k) (go (listed_at z k j) (dec_lt j k))
    where
      go : (j < k → get_or (map f (range k)) j z ≡ f j) → Dec (j < k) → get_or (map f (range k) ++ (f k ∷ [])) j z ≡ f j
      go ih (yes g) = get_or-append (map f (range k)) (f k ∷ []) z j (rw (length-listed k) g) ∙ ih g
      go ih (no g) = let e : j ≡ k = omega arith in rw e (get_or_at (map f (range k)) (f k) [] z k (length-listed k))

  -- ## a list of which the first places are filled
  pub take-fill : (l : List A) (n : ℕ) → n ≤ length l → take n (fill f l n) ≡ map f (range n)
  unfolding fill
  take-fill l zero h = unfold range in refl
  take-fill l (suc n) h =
      take-suc-set (fill f l n) n (f n) (rw (length-fill f l n) (omega arith))
      ∙ ap (λ (k : List A). k ++ (f n ∷ [])) (take-fill l n (omega arith)) ∙ sym (listed_next n)

  pub drop-fill : (l : List A) (n k : ℕ) → n ≤ k → drop k (fill f l n) ≡ drop k l
  unfolding fill
  drop-fill l zero k h = refl
  drop-fill l (suc n) k h = drop-set-lt k (fill f l n) n (f n) (omega arith) ∙ drop-fill l n k (omega arith)

  pub fill_front : (l : List A) (n : ℕ) → n ≤ length l → fill f l n ≡ map f (range n) ++ drop n l
  fill_front l n h = sym (take-append-drop n (fill f l n)) ∙ rw (take-fill l n h, drop-fill l n n (omega arith))

  -- all of them
  pub fill_listed : (l : List A) (n : ℕ) → length l ≡ n → fill f l n ≡ map f (range n)
  fill_listed l n len = sym (take_all n (fill f l n) (rw (length-fill f l n) (omega arith))) ∙ take-fill l n (omega arith)
