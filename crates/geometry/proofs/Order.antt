-- The sites of one parity in ascending order: half of all, and of 2k and 2k + 1 one is the k-th.
use Prim.Native.Nat.{ℕ, zero, suc, ◌+◌, ◌*◌, ◌/◌, ◌%◌, ◌<◌}
use mathlib.Core.List.{List, [], ◌∷◌, append_assoc, filter, filter-append, map}
use mathlib.Core.Logic.{if_pos, if_neg}
use mathlib.Core.Path.{◌≡◌, refl, ap, sym, ◌∙◌}
use native.Mathlib.Decide.{ℕ_discrete}
use native.Mathlib.Nat.{zero-add, mul_assoc, mod-lt, mod-eq_of_lt, mod-add-div, div-eq_of_lt, add-mul-div_left, add-mul-mod_self_left}
use native.Mathlib.Omega.{arith}
use lib.ListN.{length, get_or}
use Rattle.geometry.specs.Range.{range}
use Rattle.geometry.specs.Radix.{volume, coords_of}
use Rattle.geometry.specs.Shape.{Shape}
use Rattle.geometry.specs.Steps.{total, parity_of}
use Rattle.geometry.specs.Order.{sites_of, half_of, nth_of}
use Rattle.geometry.proofs.Range.{listed_next, length-listed, listed_at}
use Rattle.geometry.proofs.Steps.{even_rem, parity_small}

-- ## the sites of a parity below 2k, for an even first extent e and any others

module _ (e : ℕ) (d : List ℕ) (pos : 0 < e) (even : e % 2 ≡ 0) where
  -- 2k and its successor differ in the first coordinate alone
  pair_flips : (k : ℕ) → parity_of (e ∷ d) (suc (2 * k)) + parity_of (e ∷ d) (2 * k) ≡ 1
  unfolding parity_of coords_of total
  pair_flips k =
      let a = 2 * k in
      let r = a % e in
      let q = a / e in
      let split : a ≡ r + e * q = sym (mod-add-div a e) in
      let small : suc r < e = omega (arith, mod-lt a pos, even_rem a e even) in
      let next : suc a ≡ suc r + e * q = omega arith in
      let m : suc a % e ≡ suc r = ap (λ (x : ℕ). x % e) next ∙ add-mul-mod_self_left (suc r) e q ∙ mod-eq_of_lt small in
      let h : suc a / e ≡ q = ap (λ (x : ℕ). x / e) next ∙ add-mul-div_left (suc r) q pos ∙ (rw (div-eq_of_lt small) (zero-add q)) in
      rw (m, h) (omega arith)

  module _ (p : ℕ) (two : p < 2) where
    abbrev has : (n : ℕ) → Dec (parity_of (e ∷ d) n ≡ p)
    has n = ℕ_discrete (parity_of (e ∷ d) n) p

    nth_is : (k : ℕ) → Dec (parity_of (e ∷ d) (2 * k) ≡ p) → filter has (2 * k ∷ suc (2 * k) ∷ []) ≡ nth_of (e ∷ d) p k ∷ []
    unfolding nth_of
    nth_is k (yes h) =
        let f = pair_flips k in
        let i : nth_of (e ∷ d) p k ≡ 2 * k = omega arith in
        rw i (if_pos (has (2 * k)) h _ _ ∙ ap (λ (l : List ℕ). 2 * k ∷ l) (if_neg (has (suc (2 * k))) (λ g. absurd (omega arith)) _ _))
    nth_is k (no h) =
        let f = pair_flips k in
        let s = parity_small (e ∷ d) (2 * k) in
        let o : parity_of (e ∷ d) (suc (2 * k)) ≡ p = omega arith in
        let i : nth_of (e ∷ d) p k ≡ suc (2 * k) = omega arith in
        rw i (if_neg (has (2 * k)) h _ _ ∙ if_pos (has (suc (2 * k))) o _ _)

    below_are : (k : ℕ) → filter has (range (2 * k)) ≡ map (nth_of (e ∷ d) p) (range k)
    unfolding range
    below_are zero = refl
    below_are (suc k) =
        let a = 2 * k in
        let n : 2 * suc k ≡ suc (suc a) = omega arith in
        ap (λ (x : ℕ). filter has (range x)) n
        ∙ ap (λ (l : List ℕ). filter has l) (append_assoc (range a) (a ∷ []) (suc a ∷ []))
        ∙ filter-append has (range a) (a ∷ suc a ∷ [])
        ∙ rw (below_are k, nth_is k (has (2 * k))) (sym (listed_next (nth_of (e ∷ d) p) k))

-- ## the sites of a parity

pub halves : (d : List ℕ) → Shape d → volume d ≡ 2 * half_of d
unfolding volume half_of
halves [] s = absurd (omega (arith, s.four))
halves (e ∷ d) s =
    let x : e ≡ 2 * (e / 2) = omega (arith, (s.each 0 (omega arith)).even) in
    let f : e * volume d ≡ 2 * (e / 2 * volume d) = ap (λ (y : ℕ). y * volume d) x ∙ mul_assoc 2 (e / 2) (volume d) in
    omega (arith, f)

pub nth_below : (d : List ℕ) → Shape d → (p k : ℕ) → k < half_of d → nth_of d p k < volume d
unfolding nth_of
nth_below d s p k h = omega (arith, halves d s)

pub nth_rises : (d : List ℕ) (p i k : ℕ) → i < k → nth_of d p i < nth_of d p k
unfolding nth_of
nth_rises d p i k h = omega arith

module _ (d : List ℕ) (shape : Shape d) (p : ℕ) (two : p < 2) where
  pub sites_are : sites_of d p ≡ map (nth_of d p) (range (half_of d))
  unfolding sites_of
  sites_are = ap (λ (v : ℕ). filter (λ n. ℕ_discrete (parity_of d n) p) (range v)) (halves d shape) ∙ go d shape (half_of d)
    where
      go : (d : List ℕ) → Shape d → (k : ℕ) → filter (λ n. ℕ_discrete (parity_of d n) p) (range (2 * k)) ≡ map (nth_of d p) (range k)
      go [] s k = absurd (omega (arith, s.four))
      go (e ∷ d) s k = let x = s.each 0 (omega arith) in below_are e d (omega arith) x.even p two k

  pub count_sites : length (sites_of d p) ≡ half_of d
  count_sites = rw sites_are (length-listed (nth_of d p) (half_of d))

  pub site_at_lem : (k : ℕ) → k < half_of d → get_or (sites_of d p) k 0 ≡ nth_of d p k
  site_at_lem k h = rw sites_are (listed_at (nth_of d p) 0 (half_of d) k h)
