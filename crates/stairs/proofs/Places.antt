-- The places of a staircase, step by step.
use Rattle.std.proofs.Common.{ℕ, zero, suc, ◌+◌, ◌<◌, ◌≤◌, List, [], ◌∷◌, ◌++◌, map, length, ◌≡◌, refl, sym, ◌∙◌, false, ℤ, pos, nat_abs, ◌+ℤ◌, arith, add-one}
use native.Mathlib.Decide.{ℕ_discrete}
use Rattle.std.proofs.Math.ListN.{set, length-set}
use Rattle.std.proofs.Math.Seq.{get_or-set_same, get_or-set_other}
use Rattle.std.specs.Int.{int_signum}
use Rattle.geometry.specs.Range.{range}
use Rattle.geometry.proofs.Range.{listed_next, length-listed}
use Rattle.folds.proofs.Few.{below_three}
use Rattle.stairs.specs.declared.Step.{Step}
use Rattle.stairs.specs.Line.{along_of}
use Rattle.stairs.specs.Offsets.{bad_offsets}
use Rattle.stairs.specs.Staircase.{stepped_to, best_of, step_along, place_at, step_at, steps_to, staircase_of, Reached}
use Rattle.stairs.proofs.Whole.{moved_near, reach_low, each_offset}
use Rattle.stairs.proofs.Best.{best_low}

-- ## so many steps

pub steps_low : (d : List ℤ) → bad_offsets d ≡ false → steps_to d ≤ 96
unfolding steps_to
steps_low d h =
    let x = reach_low _ (each_offset d 0 h) in
    let y = reach_low _ (each_offset d 1 h) in
    let z = reach_low _ (each_offset d 2 h) in
    omega arith

-- ## places

pub place_none : (d : List ℤ) → pos 0 ∷ pos 0 ∷ pos 0 ∷ [] ≡ place_at d 0
unfolding place_at
place_none d = refl

pub place_next : (d : List ℤ) (i : ℕ) {p q : List ℤ} {a : ℕ} → p ≡ place_at d i → a ≡ best_of p d → q ≡ stepped_to p d a → q ≡ place_at d (i + 1)
unfolding place_at
place_next d i e f g = rw (g, f, e, add-one)

-- the step that leads on joins those that are laid
pub laid_next : (d : List ℤ) (i : ℕ) {p : List ℤ} {a : ℕ} {s : Step} {old new : List Step}
    → old ≡ map (step_at d) (range i) → p ≡ place_at d i → a ≡ best_of p d → s ≡ step_along d a → new ≡ old ++ (s ∷ []) → new ≡ map (step_at d) (range (i + 1))
unfolding step_at
laid_next d i l e f g h = rw (h, l, g, f, e, add-one i) (sym (listed_next (step_at d) i))

pub long_place : (d : List ℤ) (i : ℕ) → length (place_at d i) ≡ 3
unfolding place_at stepped_to
long_place d zero = refl
long_place d (suc i) = length-set (place_at d i) _ _ ∙ long_place d i

-- no further out than the steps taken
place_near : (d : List ℤ) (i a : ℕ) → a < 3 → nat_abs (along_of (place_at d i) a) ≤ i
unfolding place_at stepped_to
place_near d zero a l = below_three (λ a. nat_abs (along_of (place_at d 0) a) ≤ 0) (omega arith) (omega arith) (omega arith) a l
place_near d (suc i) a l = go (best_of (place_at d i) d) (best_low (place_at d i) d) (place_near d i a l) (ℕ_discrete a (best_of (place_at d i) d))
  where
    go : (b : ℕ) → b < 3 → nat_abs (along_of (place_at d i) a) ≤ i → Dec (a ≡ b) → nat_abs (along_of (set (place_at d i) b (along_of (place_at d i) b +ℤ int_signum (along_of d b))) a) ≤ suc i
    go b low h (no n) = rw (get_or-set_other (place_at d i) b a (along_of (place_at d i) b +ℤ int_signum (along_of d b)) (pos 0) n) (omega arith)
    go b low h (yes e) =
        let in_list : b < length (place_at d i) = rw (long_place d i) low in
        let m = moved_near (along_of (place_at d i) b) (along_of d b) in
        let k = rw e at h in
        rw (e, get_or-set_same (place_at d i) b (along_of (place_at d i) b +ℤ int_signum (along_of d b)) (pos 0) in_list) (omega arith)

pub near : (d : List ℤ) (i : ℕ) {p : List ℤ} → p ≡ place_at d i → i ≤ 96 → Reached p
near d i e l = record { each = λ a m. rw e (let h = place_near d i a m in omega arith) }

-- so many steps in all
pub length-staircase : (d : List ℤ) → length (staircase_of d) ≡ steps_to d
unfolding staircase_of
length-staircase d = length-listed (step_at d) (steps_to d)
