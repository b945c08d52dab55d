-- Along what stands for steps.
use Rattle.std.proofs.Common.{ℕ, ◌+◌, ◌<◌, List, [], ◌∷◌, ◌++◌, map, length, get_or, take, drop, set, ◌≡◌, refl, sym, ◌∙◌, ap, arith, append_assoc, length-take-le}
use Rattle.std.proofs.Math.Seq.{set-append_seam}
use Rattle.std.proofs.Math.ListN.{length-map}
use Rattle.std.proofs.lemmas.List.{get_or-map, map_more, drop_more}
use Rattle.stairs.specs.declared.Step.{Step}
use Rattle.baryon.specs.Calls.{Stands}

-- the step s that x stands for is the i-th
pub step_read : {S : Type 0} {R : S → Step → Type 0} (read : S → Step) (xs : List S) (i : ℕ) {x : S} {s : Step} → Stands R read → i < length xs → x ≡ get_or xs i x → R x s → s ≡ get_or (map read xs) i s
step_read read xs i {x} {s} h l e r = h x s r ∙ ap read e ∙ sym (get_or-map read xs i x s l)

-- one more of the steps xs is laid
pub laid_more : {S : Type 0} (code : Step → S) (xs : List Step) (old ys : List S) (i : ℕ) (s : Step) {c : S}
    → i < length xs → i < length old → ys ≡ map code (take i xs) ++ drop i old → s ≡ get_or xs i s → c ≡ code s → set ys i c ≡ map code (take (i + 1) xs) ++ drop (i + 1) old
laid_more {S} code xs old ys i s {c} l m e f g =
    let front : List S = map code (take i xs) in
    let len : length front ≡ i = rw (length-map, length-take-le i xs (omega arith)) in
    let seam : set (front ++ get_or old i c ∷ drop (i + 1) old) (length front) c ≡ front ++ c ∷ drop (i + 1) old = set-append_seam front (get_or old i c) (drop (i + 1) old) c in
    let there = rw len at seam in
    rw (e, drop_more old i c m, there, map_more code xs i s l, ← f, g, append_assoc front (code s ∷ []) (drop (i + 1) old)) refl
