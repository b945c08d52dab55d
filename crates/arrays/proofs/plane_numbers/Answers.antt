use Rattle.std.proofs.Common.{sym, refl, ℕ, List, ◌≡◌, ◌+◌, ◌-◌, ◌*◌, ◌<◌, ◌∙◌, arith, take, take_all, drop, length, Float}
use native.Mathlib.Numerals.{add-one}
use lib.ListN.{length-append, length-take, length-drop}
use borrow.Rule.Slice.PartMut.{put_mid}
use Rattle.std.proofs.lemmas.Slice.{take-put_mid}
use Rattle.mat.specs.declared.Su3.{Su3}
use Rattle.mat.specs.Matrix.{nth_matrix}
use Rattle.mat.specs.Numbers.{matrix_numbers}
use Rattle.arrays.specs.Arrays.{plane_numbers}
use Rattle.arrays.proofs.plane_numbers.Goals as goal
use Rattle.arrays.proofs.plane_numbers.Invariants.{first}

-- one matrix more
next : (f : List Su3) (p : ℕ) (out xs : List Float) → p < 6 → (length out ≡ 108) × (take (18 * p) out ≡ first f p)
    → length xs ≡ length (take (18 * p + 18 - 18 * p) (drop (18 * p) out)) → xs ≡ matrix_numbers (nth_matrix f p)
    → (length (put_mid (18 * p) (18 * p + 18 - 18 * p) out xs) ≡ 108) × (take (18 * (p + 1)) (put_mid (18 * p) (18 * p + 18 - 18 * p) out xs) ≡ first f (p + 1))
unfolding first
next f p out xs below before part same =
    let long = before.0 in
    let wide : length xs ≡ 18 = part ∙ simp (length-take, length-drop) (omega arith) in (
      simp (length-append, length-take, length-drop) (omega (arith, long, wide)),
      take-put_mid (18 * p) (18 * p + 18 - 18 * p) out xs (18 * (p + 1)) (omega arith) (omega arith) ∙ rw (add-one, before.1, same),
    )

all_six : (f : List Su3) → first f 6 ≡ plane_numbers f
unfolding first plane_numbers matrix_numbers
all_six f = refl

pub loop-p-init : goal.loop-p-init
unfolding first
loop-p-init c = (refl, refl)

pub loop-p-preserved : goal.loop-p-preserved
loop-p-preserved c = let stored = c.copy_from_slice.ensures in next _ c.loop-p.p _ _ c.loop-p-test.true c.loop-p.invariant stored.len (stored.after ∙ c.from.ensures)

pub returns : goal.returns
returns c =
    let all : c.loop-p.p ≡ 6 = omega (arith, c.loop-p.auto.p-end, c.loop-p-test.false) in
    let taken = rw all at c.loop-p.invariant.1 in
    sym (take_all 108 c.loop-p.out (omega (arith, c.loop-p.invariant.0))) ∙ taken ∙ all_six _
