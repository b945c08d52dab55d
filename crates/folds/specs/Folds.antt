-- What a counted loop leaves: a sum, a list filled place by place, a value stepped on, a test of all turns.
use Rattle.std.specs.Prelude.{ℕ, zero, suc, Bool, true, ◌&&◌, List, set}

module _ {A : Type 0} where
  -- op (.. (op (op z (f 0)) (f 1)) ..) (f (n - 1))
  unfoldable pub fold_to : (A → A → A) → A → (ℕ → A) → ℕ → A
  fold_to op z f zero = z
  fold_to op z f (suc n) = op (fold_to op z f n) (f n)

  -- l with f 0, .., f (n - 1) at its first n places
  unfoldable pub fill : (ℕ → A) → List A → ℕ → List A
  fill f l zero = l
  fill f l (suc n) = set (fill f l n) n (f n)

  -- step (n - 1) (.. (step 1 (step 0 z)) ..)
  unfoldable pub iter_to : (ℕ → A → A) → A → ℕ → A
  iter_to step z zero = z
  iter_to step z (suc n) = step n (iter_to step z n)

-- whether test 0, .., test (n - 1) all hold
unfoldable pub all_below : (ℕ → Bool) → ℕ → Bool
all_below test zero = true
all_below test (suc n) = all_below test n && test n
