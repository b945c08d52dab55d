-- One law for each turn of a counted loop: how it begins, goes on and ends.
use Prim.Native.Nat.{ℕ, zero, suc, ◌+◌, ◌<◌, ◌≤◌}
use mathlib.Core.Bool.{Bool, true, false, ◌&&◌}
use mathlib.Core.List.{List}
use mathlib.Core.Path.{◌≡◌, refl, ap, sym, ◌∙◌}
use native.Mathlib.Decide.{dec_lt}
use native.Mathlib.Numerals.{add-one}
use native.Mathlib.Omega.{arith}
use lib.ListN.{length, get_or, set, length-set}
use lib.Seq.{get_or-set_same, get_or-set_other}
use Rattle.folds.specs.Folds.{fold_to, fill, iter_to, all_below}

module _ {A : Type 0} where
  -- ## a sum
  pub fold_none : (op : A → A → A) (z : A) (f : ℕ → A) → z ≡ fold_to op z f 0
  unfolding fold_to
  fold_none op z f = refl

  pub fold_next : (op : A → A → A) (z : A) (f : ℕ → A) (n : ℕ) {s x t : A} → s ≡ fold_to op z f n → x ≡ f n → t ≡ op s x → t ≡ fold_to op z f (n + 1)
  unfolding fold_to
  fold_next op z f n a b d = rw (d, a, b, add-one)

  -- ## a list filled place by place
  pub fill_none : (f : ℕ → A) (l : List A) → l ≡ fill f l 0
  unfolding fill
  fill_none f l = refl

  pub fill_next : (f : ℕ → A) (l : List A) (n : ℕ) {p : List A} {z : A} → p ≡ fill f l n → z ≡ f n → set p n z ≡ fill f l (n + 1)
  unfolding fill
  fill_next f l n a b = rw (a, b, add-one)

  pub fill_done : (f : ℕ → A) (l : List A) {m n : ℕ} {p : List A} → m ≡ n → p ≡ fill f l m → p ≡ fill f l n
  fill_done f l h e = rw (e, h)

  pub length-fill : (f : ℕ → A) (l : List A) (n : ℕ) → length (fill f l n) ≡ length l
  unfolding fill
  length-fill f l zero = refl
  length-fill f l (suc n) = length-set (fill f l n) n (f n) ∙ length-fill f l n

  pub fill_at : (f : ℕ → A) (l : List A) (z : A) (n k : ℕ) → k < n → n ≤ length l → get_or (fill f l n) k z ≡ f k
  unfolding fill
  fill_at f l z zero k h g = absurd (omega arith)
  fill_at f l z (suc n) k h g = go (fill_at f l z n k) (dec_lt k n)
    where
      go : (k < n → n ≤ length l → get_or (fill f l n) k z ≡ f k) → Dec (k < n) → get_or (set (fill f l n) n (f n)) k z ≡ f k
      go ih (yes q) = get_or-set_other (fill f l n) n k (f n) z (omega arith) ∙ ih q (omega arith)
      go ih (no q) = let e : k ≡ n = omega arith in rw e (get_or-set_same (fill f l n) n (f n) z (rw (length-fill f l n) (omega arith)))

  pub fill_past : (f : ℕ → A) (l : List A) (z : A) (n k : ℕ) → n ≤ k → get_or (fill f l n) k z ≡ get_or l k z
  unfolding fill
  fill_past f l z zero k h = refl
  fill_past f l z (suc n) k h = get_or-set_other (fill f l n) n k (f n) z (omega arith) ∙ fill_past f l z n k (omega arith)

  -- ## a value stepped on
  pub iter_none : (step : ℕ → A → A) (z : A) → z ≡ iter_to step z 0
  unfolding iter_to
  iter_none step z = refl

  pub iter_next : (step : ℕ → A → A) (z : A) (n : ℕ) {s t : A} → s ≡ iter_to step z n → t ≡ step n s → t ≡ iter_to step z (n + 1)
  unfolding iter_to
  iter_next step z n a d = rw (d, a, add-one)

  pub iter_done : (step : ℕ → A → A) (z : A) {m n : ℕ} {s : A} → m ≡ n → s ≡ iter_to step z m → s ≡ iter_to step z n
  iter_done step z h e = rw (e, h)

-- ## a test of all turns
module _ (test : ℕ → Bool) where
  pub all_none : all_below test 0 ≡ true
  unfolding all_below
  all_none = refl

  pub all_next : (n : ℕ) → all_below test n ≡ true → test n ≡ true → all_below test (n + 1) ≡ true
  unfolding all_below
  all_next n a b = rw (add-one, a, b)

  pub all_done : {m n : ℕ} → m ≡ n → all_below test m ≡ true → true ≡ all_below test n
  all_done h e = rw (← h, e)

  and_false : (b : Bool) → b && false ≡ false
  and_false true = refl
  and_false false = refl

  pub all_fails : (n k : ℕ) → k < n → test k ≡ false → all_below test n ≡ false
  unfolding all_below
  all_fails zero k h e = absurd (omega arith)
  all_fails (suc n) k h e = go (all_fails n k) (dec_lt k n)
    where
      go : (k < n → test k ≡ false → all_below test n ≡ false) → Dec (k < n) → all_below test n && test n ≡ false
      go ih (yes g) = rw (ih g e)
      go ih (no g) = let p : n ≡ k = omega arith in ap (λ (j : ℕ). all_below test n && test j) p ∙ rw e (and_false (all_below test n))

  pub all_each : (n k : ℕ) → k < n → all_below test n ≡ true → test k ≡ true
  all_each n k h a = go (test k) refl
    where
      go : (b : Bool) → test k ≡ b → b ≡ true
      go true e = refl
      go false e = sym (all_fails n k h e) ∙ a

  pub each_all : (n : ℕ) → ((k : ℕ) → k < n → test k ≡ true) → all_below test n ≡ true
  each_all zero h = all_none
  each_all (suc n) h = rw (add-one n) at (all_next n (each_all n (λ k g. h k (omega arith))) (h n (omega arith)))
