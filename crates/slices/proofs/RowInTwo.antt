-- A row's two runs, up to its end and on from its beginning, are its sum.
use Rattle.std.proofs.Common.{ℕ, ◌+◌, ◌-◌, ◌*◌, ◌%◌, ◌<◌, List, ◌≡◌, length, take, drop, ap, ◌∙◌, length-drop, mul-add, mod-eq_of_lt, arith}
use native.Mathlib.Nat.{add-mul-mod_self_left}
use Rattle.std.proofs.lemmas.List.{get_or-take, get_or-drop, take_rest}
use lib.Ieee.{Float, nan, binary64, add}
use Rattle.folds.specs.Folds.{fold_to}
use Rattle.folds.proofs.Folds.{fold_same, fold_more}
use Rattle.complex.specs.Rounded.{◌⊠◌}
use Rattle.slices.specs.Slices.{number}
use Rattle.slices.specs.Parts.{run_sum, wrapped_sum, Reaches}

module _ (w S : List Float) (nt rx : ℕ) (h : rx < length w) where
  abbrev m : ℕ
  m = length w - rx

  pub to_end : Reaches w S nt → {front : List Float} → length front ≡ m → Reaches front (take (length S - nt * rx) (drop (nt * rx) S)) nt
  to_end reach len = record {
    each = λ i g.
        let there : nt * (rx + i) < length S = reach.each (rx + i) (omega (arith, g, len, h)) in
        rw (take_rest S (nt * rx), length-drop (nt * rx) S) (omega (arith, there, mul-add nt rx i));
  }

  term : ℕ → Float
  term x = number w x ⊠ number S (nt * ((x + rx) % length w))

  whole : m + rx ≡ length w
  whole = omega (arith, h)

  before : (k : ℕ) → k < m → number (take m w) k ⊠ number (drop (nt * rx) S) (nt * k) ≡ number w k ⊠ number S (nt * ((k + rx) % length w))
  before k g =
      let e : (k + rx) % length w ≡ rx + k = mod-eq_of_lt (omega (arith, g, h)) ∙ omega arith in
      rw (e, mul-add nt rx k, get_or-take m w k nan g, get_or-drop (nt * rx) S (nt * k) nan)

  after : (i : ℕ) → i < rx → number (drop m w) i ⊠ number S (nt * i) ≡ number w (m + i) ⊠ number S (nt * ((m + i + rx) % length w))
  after i g =
      let over : m + i + rx ≡ i + length w * 1 = omega (arith, whole) in
      let e : (m + i + rx) % length w ≡ i = ap (λ (j : ℕ). j % length w) over ∙ add-mul-mod_self_left i (length w) 1 ∙ mod-eq_of_lt (omega (arith, g, h)) in
      rw (e, get_or-drop m w i nan)

  pub row_is : {front back : List Float} → front ≡ take m w → back ≡ drop m w → length front ≡ m → (sum : Float) → {s : Float}
      → s ≡ run_sum front (take (length S - nt * rx) (drop (nt * rx) S)) nt sum → run_sum back S nt s ≡ wrapped_sum w S nt rx sum
  unfolding run_sum wrapped_sum term
  row_is {front} {back} f b len sum e =
      let left : length back ≡ rx = rw (b, length-drop m w) (omega (arith, h)) in
      rw (e, left, len, f, b, take_rest S (nt * rx), fold_same (add binary64) sum _ term m before)
      (fold_same (add binary64) (fold_to (add binary64) sum term m) _ (λ i. term (m + i)) rx after ∙ fold_more (add binary64) sum term m rx ∙ ap (fold_to (add binary64) sum term) whole)
