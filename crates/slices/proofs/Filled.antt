-- Lists known place by place.
use Rattle.std.proofs.Common.{ℕ, ◌+◌, ◌<◌, List, map, ◌≡◌, length, get_or, take, drop, sym, ◌∙◌, arith}
use Rattle.std.proofs.lemmas.List.{get_or-take, get_or-drop}
use lib.Seq.{ext_get_or}
use Rattle.geometry.specs.Range.{range}
use Rattle.geometry.proofs.Range.{length-listed, listed_at}

module _ {A : Type 0} where
  pub listed_same : (f g : ℕ → A) (z : A) (n : ℕ) → ((k : ℕ) → k < n → f k ≡ g k) → map f (range n) ≡ map g (range n)
  listed_same f g z n same =
      ext_get_or z (map f (range n)) (map g (range n)) (length-listed f n ∙ sym (length-listed g n))
      (λ k h. let b : k < n = omega (arith, length-listed f n) in listed_at f z n k b ∙ same k b ∙ sym (listed_at g z n k b))

  pub listed_is : (f : ℕ → A) (l : List A) (z : A) {n : ℕ} → length l ≡ n → ((k : ℕ) → k < n → get_or l k z ≡ f k) → l ≡ map f (range n)
  listed_is f l z {n} len same =
      ext_get_or z l (map f (range n)) (len ∙ sym (length-listed f n)) (λ k h. let b : k < n = omega arith in same k b ∙ sym (listed_at f z n k b))

  -- a list's part
  pub part_at : (l : List A) (b n i : ℕ) (z : A) → i < n → get_or (take n (drop b l)) i z ≡ get_or l (b + i) z
  part_at l b n i z h = get_or-take n (drop b l) i z h ∙ get_or-drop b l i z
