-- What each call answers, and what the list of steps holds afterwards.
use Rattle.std.specs.Prelude.{ℕ, ◌<◌, List, ◌++◌, map, ◌≡◌, Float, ℤ, length, drop, Option, Result}
use Rattle.rows.specs.declared.Refusal.{Refusal}
use Rattle.rows.specs.Refusals.{first_refusal, finally, answered, unless}
use Rattle.mat.specs.declared.Su3.{Su3}
use Rattle.gauge.specs.Field.{link_of}
use Rattle.field_checks.specs.Situations.{bad_number, bad_matrix}
use Rattle.stairs.specs.declared.Step.{Step}
use Rattle.stairs.specs.Staircase.{steps_to, staircase_of}
use Rattle.paths.specs.Path.{Transporter, path_of, line_of}
use Rattle.contraction.specs.Baryon.{baryon_of}
use Rattle.baryon.specs.Situations.{stair_rows, path_rows, line_rows, loop_rows}

-- ## What stands for a step

-- each step along an axis is given as code has it
abbrev pub Gives : {S : Type 0} → (Step → S → Type 0) → (Step → S) → Type 0
Gives {S} R code = (s : Step) (c : S) → s.axis < 4 → R s c → c ≡ code s

-- what is given stands for the step that read has
abbrev pub Stands : {S : Type 0} → (S → Step → Type 0) → (S → Step) → Type 0
Stands {S} R read = (c : S) (s : Step) → R c s → s ≡ read c

-- ## The staircase: steps to the front, later places stay

-- the refusal for a list with so much room
abbrev pub staircase_refusal : List ℤ → ℕ → Option Refusal
staircase_refusal o room = first_refusal (stair_rows o room)

-- code has what stands for a step
pub record StaircaseCall {S : Type 0} (code : Step → S) (o : List ℤ) (old : List S) (r : Result ℕ Refusal) (new : List S) : Type 0 where
  pub answer : r ≡ answered (staircase_refusal o (length old)) (steps_to o)
  pub list : new ≡ unless (staircase_refusal o (length old)) (map code (staircase_of o) ++ drop (steps_to o) old) old

-- ## Products of links

abbrev pub product_and_site : Transporter → Su3 × ℕ
product_and_site w = (w.u, w.site)

unfoldable pub path_call : List ℕ → ℕ → List Float → List Step → Result (Su3 × ℕ) Refusal
path_call d n l steps =
    let w = path_of d (link_of d l) n steps in
    answered (finally (first_refusal (path_rows d (length l) n steps)) (bad_matrix w.u, Refusal.NotFinite)) (product_and_site w)

unfoldable pub line_call : List ℕ → ℕ → ℕ → List Float → Result (Su3 × ℕ) Refusal
line_call d n t l =
    let w = line_of d (link_of d l) n t in
    answered (finally (first_refusal (line_rows d (length l) n t)) (bad_matrix w.u, Refusal.NotFinite)) (product_and_site w)

-- ## The loop

unfoldable pub baryon_call : List ℕ → ℕ → List (List ℤ) → ℕ → List Float → Result Float Refusal
baryon_call d n o t l =
    let x = baryon_of d (link_of d l) t o n in
    answered (finally (first_refusal (loop_rows d (length l) n o t)) (bad_number x, Refusal.NotFinite)) x
