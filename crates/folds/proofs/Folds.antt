-- Sums in parts: two runs are one, and a loop within a loop is one loop over both.
use Prim.Native.Nat.{ℕ, zero, suc, ◌+◌, ◌*◌, ◌<◌}
use mathlib.Core.Path.{◌≡◌, refl}
use native.Mathlib.Nat.{add-zero, add_comm, mul-zero, mul-one, mul-add}
use native.Mathlib.Omega.{arith}
use Rattle.folds.specs.Folds.{fold_to, iter_to}

module _ {A : Type 0} where
  -- equal terms, equal sums
  pub fold_same : (op : A → A → A) (z : A) (f g : ℕ → A) (n : ℕ) → ((k : ℕ) → k < n → f k ≡ g k) → fold_to op z f n ≡ fold_to op z g n
  unfolding fold_to
  fold_same op z f g zero same = refl
  fold_same op z f g (suc n) same = rw (fold_same op z f g n (λ k h. same k (omega arith)), same n (omega arith))

  pub fold_more : (op : A → A → A) (z : A) (f : ℕ → A) (m n : ℕ) → fold_to op (fold_to op z f m) (λ i. f (m + i)) n ≡ fold_to op z f (m + n)
  unfolding fold_to
  fold_more op z f m zero = rw (add-zero m)
  fold_more op z f m (suc n) = let e : m + suc n ≡ suc (m + n) = omega arith in rw (e, fold_more op z f m n)

  -- a sum steps on by its terms
  pub fold_iter : (op : A → A → A) (z : A) (f : ℕ → A) (n : ℕ) → fold_to op z f n ≡ iter_to (λ k s. op s (f k)) z n
  unfolding fold_to iter_to
  fold_iter op z f zero = refl
  fold_iter op z f (suc n) = rw (fold_iter op z f n)

  pub iter_same : (step other : ℕ → A → A) (z : A) (n : ℕ) → ((k : ℕ) → k < n → (s : A) → step k s ≡ other k s) → iter_to step z n ≡ iter_to other z n
  unfolding iter_to
  iter_same step other z zero same = refl
  iter_same step other z (suc n) same = rw (iter_same step other z n (λ k h. same k (omega arith)), same n (omega arith))

  iter_more : (step : ℕ → A → A) (z : A) (m n : ℕ) → iter_to (λ i. step (i + m)) (iter_to step z m) n ≡ iter_to step z (m + n)
  unfolding iter_to
  iter_more step z m zero = rw (add-zero m)
  iter_more step z m (suc n) = let e : m + suc n ≡ suc (m + n) = omega arith in rw (e, iter_more step z m n, add_comm n m)

  -- m turns, n times over
  pub iter_nested : (step : ℕ → A → A) (z : A) (m n : ℕ) → iter_to (λ j s. iter_to (λ i. step (i + m * j)) s m) z n ≡ iter_to step z (m * n)
  unfolding iter_to
  iter_nested step z m zero = rw (mul-zero m)
  iter_nested step z m (suc n) =
      let e : m * suc n ≡ m * n + m = omega (arith, mul-add m n 1, mul-one m) in
      rw (iter_nested step z m n, iter_more step z (m * n) m, e)
