-- A half-sweep in frames, as one claim about the whole list of its frame calls (the scope document's demand 3).
use Rattle.std.specs.Prelude.{ℕ, ◌+◌, ◌*◌, ◌<◌, min, ◌≡◌, eqb, Float, length, take, None, Some, Ok}
use mathlib.Core.List.{List, [], ◌∷◌, Mem}
use Rattle.rows.specs.declared.Refusal.{Refusal}
use Rattle.rows.specs.Refusals.{unless}
use Rattle.geometry.specs.Radix.{volume}
use Rattle.geometry.specs.Order.{sites_of, half_of}
use Rattle.links.specs.Field.{Field}
use Rattle.gauge.specs.Field.{link_of}
use Rattle.lattice.specs.declared.Plan.{Plan}
use Rattle.sweep.specs.declared.Job.{Job}
use Rattle.visits.specs.Visits.{visited_link, stuck_among}
use Rattle.sweep.specs.Jobs.{Framed, new_job, open_call, update_by, counted, frame_answer, frame_links, finished_call}

-- ## A run

-- a frame call: its size, and whether it is lent the field's links or another list
pub data Frame : Type 0 where
  on_field : ℕ → Frame
  on_other : ℕ → List Float → Frame

-- what stands between two calls: the job that the last one handed back, and the links as they are
pub record RunState : Type 0 where
  pub job : Job
  pub links : List Float

-- a half-sweep just opened
abbrev pub opened : Plan → ℕ → ℕ → List Float → RunState
opened q mu p l = record { job = (open_call q mu p).job; links = l }

abbrev pub size_of : Frame → ℕ
size_of (on_field size) = size
size_of (on_other size l) = size

abbrev pub answer_of : RunState → Frame → Framed
answer_of b (on_field size) = frame_answer b.job size b.links
answer_of b (on_other size l) = frame_answer b.job size l

-- after a call; a list that is not the field's leaves the links alone
abbrev pub next : RunState → Frame → RunState
next b (on_field size) = record { job = (answer_of b (on_field size)).job; links = frame_links b.job size b.links }
next b (on_other size l) = record { job = (answer_of b (on_other size l)).job; links = b.links }

unfoldable pub run : RunState → List Frame → RunState
run b [] = b
run b (f ∷ fs) = run (next b f) fs

-- the sum of the accepted frames, told by their answers
unfoldable pub accepted_sum : RunState → List Frame → ℕ
accepted_sum b [] = 0
accepted_sum b (f ∷ fs) = unless (answer_of b f).refusal (size_of f) 0 + accepted_sum (next b f) fs

-- every other list has a wrong length
unfoldable pub OthersMisfit : ℕ → List Frame → Type 0
OthersMisfit len [] = Unit {0}
OthersMisfit len (on_field size ∷ fs) = OthersMisfit len fs
OthersMisfit len (on_other size l ∷ fs) = (length l ≡ len → ⊥) × OthersMisfit len fs

-- ## What holds after it

-- each call's answer: on the field's links accepted; on another list refused for its length, with the job and that list as they were
unfoldable pub Answered : RunState → List Frame → Type 0
Answered b [] = Unit {0}
Answered b (on_field size ∷ fs) = ((answer_of b (on_field size)).refusal ≡ None) × Answered (next b (on_field size)) fs
Answered b (on_other size l ∷ fs) =
    ((answer_of b (on_other size l)).refusal ≡ Some Refusal.Length) × ((answer_of b (on_other size l)).job ≡ b.job) × (frame_links b.job size l ≡ l)
    × Answered (next b (on_other size l)) fs

-- the first s sites of a parity in ascending order
abbrev pub first_sites : List ℕ → ℕ → ℕ → List ℕ
first_sites d p s = take s (sites_of d p)

-- s sites of the half-sweep that was opened as the job j, on the field U, have been visited
pub record Swept (j : Job) (U : Field) (s : ℕ) (b : RunState) : Type 0 where
  -- there are that many
  pub count : length (first_sites j.extents j.parity s) ≡ s
  -- the link of each in the job's direction is what the one-link update gives from U, or its old one if it is stuck there
  pub updated : (n : ℕ) → Mem n (first_sites j.extents j.parity s)
      → link_of j.extents b.links j.direction n ≡ visited_link (update_by j U n) (U j.direction n)
  -- all other links are the old ones
  pub kept : (nu n : ℕ) → nu < 4 → n < volume j.extents → (nu ≡ j.direction → Mem n (first_sites j.extents j.parity s) → ⊥)
      → link_of j.extents b.links nu n ≡ U nu n
  pub len : length b.links ≡ 72 * volume j.extents
  -- the job says s visited, and how many of these links are stuck in U; all else stays as opened
  pub job : b.job ≡ counted j s (stuck_among (update_by j) U (first_sites j.extents j.parity s))
  -- it is finished exactly when s is half the sites
  pub finished : finished_call b.job ≡ Ok (eqb s (half_of j.extents))

-- ## The claim

-- An accepted opening and a list that fits the plan's extents, whatever its contents. A plan's type says that there are four extents; the logic sees a list.
pub record Opening (q : Plan) (mu p : ℕ) (l : List Float) : Type 0 where
  pub four : length q.extents ≡ 4
  pub accepted : (open_call q mu p).refusal ≡ None
  pub fits : length l ≡ 72 * volume q.extents

-- s is the smaller of the accepted frames' sum and half the sites
abbrev pub FramesAreVisits : Type 0
FramesAreVisits =
    (q : Plan) (mu p : ℕ) (l : List Float) (frames : List Frame)
    → Opening q mu p l
    → OthersMisfit (72 * volume q.extents) frames
    → Swept (new_job q mu p) (link_of q.extents l) (min (accepted_sum (opened q mu p l) frames) (half_of q.extents)) (run (opened q mu p l) frames)
    × Answered (opened q mu p l) frames
