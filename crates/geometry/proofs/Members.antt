-- Which sites the list of a parity has: each of its parity, once.
use Prim.Native.Nat.{ℕ, zero, suc, ◌<◌}
use mathlib.Core.HLevel.{⊥_prop}
use mathlib.Core.List.Memᴰ
use mathlib.Core.List.Nodup
use mathlib.Core.List.{List, [], ◌∷◌, ◌++◌, Mem, Nodup, mem-append, mem-append_left, mem-append_right, mem-cons_self, not-mem-nil, mem-filter, filter-sublist, Nodup-nil, Nodup-cons, Nodup-append}
use mathlib.Core.Logic.Or
use mathlib.Core.Logic.{∥∥₁_elim, by_cases}
use mathlib.Core.Path.{◌≡◌}
use native.Mathlib.Decide.{ℕ_discrete, dec_lt}
use native.Mathlib.Omega.{arith}
use Rattle.geometry.specs.Range.{range}
use Rattle.geometry.specs.Radix.{volume}
use Rattle.geometry.specs.Steps.{parity_of}
use Rattle.geometry.specs.Order.{sites_of}

-- ## the numbers below n

not_above : (n m : ℕ) → (m < n → ⊥) → Mem m (range n) → ⊥
unfolding range
not_above zero m h i = not-mem-nil i
not_above (suc n) m h i =
    Or.elim ⊥_prop (mem-append.0 i) (not_above n m (λ g. h (omega arith)))
    (λ o. ∥∥₁_elim o ⊥_prop (λ e. let same = Memᴰ.eq_of_singleton e in h (omega arith)))

pub range_below : (n m : ℕ) → Mem m (range n) → m < n
range_below n m i = by_cases (dec_lt m n) (λ h. h) (λ h. absurd (not_above n m h i))

pub below_range : (n m : ℕ) → m < n → Mem m (range n)
unfolding range
below_range zero m h = absurd (omega arith)
below_range (suc n) m h = go (below_range n m) (dec_lt m n)
  where
    go : (m < n → Mem m (range n)) → Dec (m < n) → Mem m (range n ++ (n ∷ []))
    go ih (yes g) = mem-append_left (n ∷ []) (ih g)
    go ih (no g) = let e : m ≡ n = omega arith in rw e (mem-append_right (range n) mem-cons_self)

pub range_once : (n : ℕ) → Nodup (range n)
unfolding range
range_once zero = Nodup-nil
range_once (suc n) =
    Nodup-append.1 (
      range_once n,
      Nodup-cons.1 (not-mem-nil, Nodup-nil),
      λ a i o. ∥∥₁_elim o ⊥_prop (λ e. let same = Memᴰ.eq_of_singleton e in let b = range_below n a i in omega arith),
    )

-- ## the sites of a parity

module _ (d : List ℕ) (p : ℕ) where
  pub site_inside : (n : ℕ) → Mem n (sites_of d p) → (n < volume d) × (parity_of d n ≡ p)
  unfolding sites_of
  site_inside n i = let both = (mem-filter (λ m. ℕ_discrete (parity_of d m) p)).0 i in (range_below (volume d) n both.0, both.1)

  pub inside_site : (n : ℕ) → n < volume d → parity_of d n ≡ p → Mem n (sites_of d p)
  unfolding sites_of
  inside_site n h e = (mem-filter (λ m. ℕ_discrete (parity_of d m) p)).1 (below_range (volume d) n h, e)

  pub sites_once : Nodup (sites_of d p)
  unfolding sites_of
  sites_once = Nodup.sublist (filter-sublist (λ m. ℕ_discrete (parity_of d m) p)) (range_once (volume d))
