-- The sums of the densities, one by one.
use Rattle.std.proofs.Common.{ℕ, ◌+◌, ◌*◌, ◌<◌, ◌≤◌, cond, List, ◌++◌, map, ◌≡◌, length, take, drop, ap, sym, ◌∙◌, set, ltb, length-append, length-drop, le_of_mul-le-mul_right, lt_of_mul-lt-mul_right, arith}
use native.Mathlib.Decide.{dec_lt}
use lib.Ieee.{Float, nan, binary64, add}
use lib.Seq.{ext_get_or, take_at, drop_at, drop-drop}
use borrow.Author.Tests.{lt-ltb, le-ltb}
use Rattle.std.specs.List.{fold}
use Rattle.folds.specs.Folds.{fill}
use Rattle.folds.proofs.Lists.{folded}
use Rattle.folds.proofs.Laws.{fill_next, fill_at, fill_past, length-fill}
use Rattle.folds.proofs.Folds.{fold_same}
use Rattle.complex.specs.Rounded.{◌⊞◌, fzero}
use Rattle.geometry.specs.Range.{range}
use Rattle.geometry.specs.Radix.{volume}
use Rattle.geometry.proofs.Range.{length-listed, listed_at}
use Rattle.slices.specs.Slices.{number, density_at, density_sum, sums_of}
use Rattle.slices.proofs.Filled.{part_at}

-- the k-th sum with the numbers of its density added
abbrev pub added : List ℕ → List Float → List Float → ℕ → Float
added d dens s k = number s k ⊞ density_sum d dens k

density_total : (d : List ℕ) (dens : List Float) (k : ℕ) {l : List Float} {x : Float} → l ≡ take (volume d) (drop (k * volume d) dens) → length l ≡ volume d
    → x ≡ fold (add binary64) fzero l → x ≡ density_sum d dens k
unfolding density_sum
density_total d dens k {l} is len e =
    e ∙ sym (folded (add binary64) fzero l nan) ∙ rw (len, is) (fold_same (add binary64) fzero _ (density_at d dens k) (volume d) (λ i h. part_at dens (k * volume d) (volume d) i nan h))

sums_next : (d : List ℕ) (dens s : List Float) (k : ℕ) {r : List Float} {x : Float} → r ≡ fill (added d dens s) s k → x ≡ density_sum d dens k
    → set r k (number r k ⊞ x) ≡ fill (added d dens s) s (k + 1)
sums_next d dens s k e sum = fill_next _ _ _ e (rw (sum, e, fill_past (added d dens s) s nan k k (omega arith)))

sums_are : (d : List ℕ) (dens : List Float) (count : ℕ) (s : List Float) → count ≤ 4 → length s ≡ 4 → fill (added d dens s) s count ≡ sums_of d dens count s
unfolding sums_of
sums_are d dens count s few four =
    ext_get_or nan (fill (added d dens s) s count) (map rule (range 4)) (length-fill (added d dens s) s count ∙ four ∙ sym (length-listed rule 4))
    (λ k h. let g : k < 4 = omega (arith, length-fill (added d dens s) s count, four) in go k g (dec_lt k count) ∙ sym (listed_at rule nan 4 k g))
  where
    rule : ℕ → Float
    rule k = cond (ltb k count) (added d dens s k) (number s k)

    go : (k : ℕ) → k < 4 → Dec (k < count) → number (fill (added d dens s) s count) k ≡ rule k
    go k g (yes h) = fill_at (added d dens s) s nan count k h (omega (arith, few, four)) ∙ rw (lt-ltb k count h)
    go k g (no h) = fill_past (added d dens s) s nan count k (omega arith) ∙ rw (le-ltb k count (omega arith))

-- ## density after density

-- the numbers that are left after k of them
pub record Along (d : List ℕ) (dens s : List Float) (k : ℕ) (rest sums : List Float) : Type 0 where
  pub ahead : rest ≡ drop (k * volume d) dens
  pub gone : k * volume d ≤ length dens
  pub so_far : sums ≡ fill (added d dens s) s k

module _ (d : List ℕ) (dens s : List Float) where
  module _ {k : ℕ} {rest sums : List Float} (a : Along d dens s k rest sums) where
    pub along_next : (x t : List Float) → rest ≡ x ++ t → length x ≡ volume d → {y : Float} → y ≡ fold (add binary64) fzero x → Along d dens s (k + 1) t (set sums k (number sums k ⊞ y))
    along_next x t cut one sum =
        let step : k * volume d + volume d ≡ (k + 1) * volume d = omega arith in
        let here : x ≡ take (volume d) (drop (k * volume d) dens) = sym (rw (← a.ahead, cut) (take_at x t (volume d) one)) in
        let size = sym (ap length a.ahead ∙ length-drop (k * volume d) dens) ∙ ap length cut ∙ length-append x t in
        record {
          ahead = sym (drop_at x t (volume d) one) ∙ rw (← cut, a.ahead) (drop-drop (volume d) (k * volume d) dens ∙ ap (λ (i : ℕ). drop i dens) step);
          gone = omega (arith, size, one, a.gone, step);
          so_far = sums_next d dens s k a.so_far (density_total d dens k here one sum);
        }

    pub along_done : {count : ℕ} → length dens ≡ count * volume d → 0 < volume d → length rest < volume d → count ≤ 4 → length s ≡ 4 → sums ≡ sums_of d dens count s
    along_done {count} len some short few four =
        let left = ap length a.ahead ∙ length-drop (k * volume d) dens in
        let low : k ≤ count = le_of_mul-le-mul_right {k = volume d} (omega (arith, len, a.gone)) some in
        let high : count < k + 1 = lt_of_mul-lt-mul_right (volume d) (omega (arith, len, left, short, a.gone)) in
        let all : k ≡ count = omega arith in
        a.so_far ∙ rw all (sums_are d dens count s few four)
