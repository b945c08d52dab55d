-- The proof of specs/RunOfFrames.antt: after frames that add up to s, job and links are those of s visits.
use Rattle.std.proofs.Common.{ℕ, ◌+◌, ◌*◌, ◌<◌, ◌≤◌, min, List, [], ◌∷◌, ◌++◌, None, Some, false, ◌≡◌, refl, ap, sym, ◌∙◌, zero-add, arith, Float, length, take-add, take_all}
use native.Mathlib.Decide.{dec_lt}
use Rattle.rows.specs.declared.Refusal.{Refusal}
use Rattle.rows.specs.Refusals.{first_refusal, answered, unless}
use Rattle.geometry.specs.Radix.{volume}
use Rattle.geometry.specs.Order.{sites_of, half_of}
use Rattle.geometry.proofs.Order.{count_sites}
use Rattle.gauge.specs.Field.{link_of, list_of}
use Rattle.gauge.proofs.Lists.{Same, length-list, links_of}
use Rattle.lattice.specs.declared.Plan.{Plan}
use Rattle.field_checks.proofs.Laws.{bad_links_lem, good_links}
use Rattle.visits.specs.Visits.{stuck_among, segment, overrelax, overrelaxed_field, stuck_count}
use Rattle.sweep.specs.Jobs.{new_job, counted, open_call, open_refusal, bad_job, frame_refusal, frame_sites, frame_answer, frame_links, finished_rows, finished_call}
use Rattle.sweep.specs.RunOfFrames.{Frame, RunState, opened, answer_of, next, run, accepted_sum, OthersMisfit, Answered, first_sites, Swept, FramesAreVisits}
use Rattle.sweep.proofs.Laws.{good_job, Accepted, accepted_opening}
use Rattle.visits.proofs.Visited.{visited_in, visited_out}
use Rattle.visits.proofs.Joined.{Pieces, part_inside, pieces, length_part, few_stuck, field_nine, visits_join, count_join, visits_none}

module _ (q : Plan) (mu p : ℕ) (l₀ : List Float) (ok : Accepted q mu p) (len : length l₀ ≡ 72 * volume q.extents) where
  -- ## the state after s visits

  abbrev pub links_after : ℕ → List Float
  links_after s = list_of q.extents (overrelaxed_field q.extents mu (link_of q.extents l₀) (first_sites q.extents p s))

  abbrev pub state_at : ℕ → RunState
  state_at s = record {
    job = counted (new_job q mu p) s (stuck_count q.extents mu (link_of q.extents l₀) (first_sites q.extents p s));
    links = links_after s;
  }

  first_count : (s : ℕ) → s ≤ half_of q.extents → length (first_sites q.extents p s) ≡ s
  first_count s h = length_part q.extents p ok.shape ok.two 0 s ∙ omega arith

  good : (s : ℕ) → s ≤ half_of q.extents → bad_job (state_at s).job ≡ false
  good s h = good_job (state_at s).job h (few_stuck q.extents p ok.shape ok.two mu (link_of q.extents l₀) 0 s refl) ok.axis ok.two

  -- ## its rows

  takes : (s : ℕ) → s ≤ half_of q.extents → frame_refusal (state_at s).job (links_after s) ≡ None
  unfolding first_refusal
  takes s h = rw (ok.extents, good_links q.extents (length-list q.extents (overrelaxed_field q.extents mu (link_of q.extents l₀) (first_sites q.extents p s))), good s h)

  refuses : (s : ℕ) (l : List Float) → (length l ≡ 72 * volume q.extents → ⊥) → frame_refusal (state_at s).job l ≡ Some Refusal.Length
  unfolding first_refusal
  refuses s l n = rw (ok.extents, bad_links_lem q.extents n)

  asked : (s : ℕ) → s ≤ half_of q.extents → first_refusal (finished_rows (state_at s).job) ≡ None
  unfolding first_refusal
  asked s h = rw (ok.extents, good s h)

  -- ## a call takes one state to another

  abbrev more : ℕ → ℕ → List ℕ
  more s n = segment q.extents p s n

  all_left : (s n : ℕ) → first_sites q.extents p s ++ more s n ≡ first_sites q.extents p (min (s + n) (half_of q.extents))
  all_left s n = sym (take-add s n (sites_of q.extents p)) ∙ go (dec_lt (half_of q.extents) (s + n))
    where
      few : length (sites_of q.extents p) ≡ half_of q.extents
      few = count_sites q.extents ok.shape p ok.two

      go : Dec (half_of q.extents < s + n) → first_sites q.extents p (s + n) ≡ first_sites q.extents p (min (s + n) (half_of q.extents))
      go (yes h) =
          take_all (s + n) (sites_of q.extents p) (omega (arith, few))
          ∙ sym (take_all (min (s + n) (half_of q.extents)) (sites_of q.extents p) (omega (arith, few)))
      go (no h) = let e : s + n ≡ min (s + n) (half_of q.extents) = omega arith in ap (λ (k : ℕ). first_sites q.extents p k) e

  -- visits of the next n sites, or of all that are left
  both : (s n : ℕ) → Pieces q.extents p (first_sites q.extents p s) (more s n)
  both s n = pieces q.extents p 0 (s + n) (first_sites q.extents p s) (more s n) (take-add s n (sites_of q.extents p))

  links_next : (s n : ℕ) → list_of q.extents (overrelaxed_field q.extents mu (link_of q.extents (links_after s)) (more s n)) ≡ links_after (min (s + n) (half_of q.extents))
  links_next s n =
      visits_join q.extents ok.shape mu p ok.axis l₀ (links_after s) (first_sites q.extents p s) (more s n) (both s n) refl
      ∙ ap (λ (a : List ℕ). list_of q.extents (overrelaxed_field q.extents mu (link_of q.extents l₀) a)) (all_left s n)

  stuck_next : (s n : ℕ) → (state_at s).job.stuck + stuck_count q.extents mu (link_of q.extents (links_after s)) (more s n)
      ≡ (state_at (min (s + n) (half_of q.extents))).job.stuck
  stuck_next s n =
      count_join q.extents ok.shape mu p ok.axis l₀ (links_after s) (first_sites q.extents p s) (more s n) (both s n) refl
      ∙ ap (λ (a : List ℕ). stuck_count q.extents mu (link_of q.extents l₀) a) (all_left s n)

  visited_next : (s n : ℕ) → s ≤ half_of q.extents → s + length (more s n) ≡ min (s + n) (half_of q.extents)
  visited_next s n h = ap (λ (k : ℕ). s + k) (length_part q.extents p ok.shape ok.two s n) ∙ omega arith

  next_on_field : (s n : ℕ) → s ≤ half_of q.extents → next (state_at s) (Frame.on_field n) ≡ state_at (min (s + n) (half_of q.extents))
  unfolding frame_answer frame_links frame_sites unless
  next_on_field s n h = rw (takes s h, links_next s n, stuck_next s n, visited_next s n h)

  next_on_other : (s n : ℕ) (l : List Float) → (length l ≡ 72 * volume q.extents → ⊥) → next (state_at s) (Frame.on_other n l) ≡ state_at s
  unfolding frame_answer unless
  next_on_other s n l w = rw (refuses s l w)

  -- ## the whole list of calls, from any state

  pub record Ran (s : ℕ) (frames : List Frame) : Type 0 where
    pub ends : run (state_at s) frames ≡ state_at (min (s + accepted_sum (state_at s) frames) (half_of q.extents))
    pub answers : Answered (state_at s) frames

  pub ran : (frames : List Frame) (s : ℕ) → s ≤ half_of q.extents → OthersMisfit (72 * volume q.extents) frames → Ran s frames
  unfolding run accepted_sum Answered OthersMisfit unless
  ran [] s h w = let e : s ≡ min (s + 0) (half_of q.extents) = omega arith in record { ends = ap state_at e; answers = tt }
  ran (Frame.on_field n ∷ fs) s h w =
      let e = next_on_field s n h in
      let r = ran fs (min (s + n) (half_of q.extents)) (omega arith) w in
      let z : (answer_of (state_at s) (Frame.on_field n)).refusal ≡ None = unfold frame_answer in takes s h in
      let t = accepted_sum (state_at (min (s + n) (half_of q.extents))) fs in
      let sum : min (min (s + n) (half_of q.extents) + t) (half_of q.extents) ≡ min (s + (n + t)) (half_of q.extents) = omega arith in
      record { ends = rw (e, z) (r.ends ∙ ap state_at sum); answers = (z, rw e r.answers) }
  ran (Frame.on_other n l ∷ fs) s h w =
      let e = next_on_other s n l w.0 in
      let r = ran fs s h w.1 in
      let row = refuses s l w.0 in
      let z : (answer_of (state_at s) (Frame.on_other n l)).refusal ≡ Some Refusal.Length = unfold frame_answer in row in
      let job : (answer_of (state_at s) (Frame.on_other n l)).job ≡ (state_at s).job = unfold frame_answer in (rw row) in
      let list : frame_links (state_at s).job n l ≡ l = unfold frame_links in (rw row) in
      let t = accepted_sum (state_at s) fs in
      let sum : min (s + t) (half_of q.extents) ≡ min (s + (0 + t)) (half_of q.extents) = omega arith in
      record { ends = rw (e, z) (r.ends ∙ ap state_at sum); answers = (z, job, list, rw e r.answers) }

  -- ## what a state says of the field at opening

  holds : (s : ℕ) → Same q.extents (link_of q.extents (links_after s)) (overrelaxed_field q.extents mu (link_of q.extents l₀) (first_sites q.extents p s))
  holds s = links_of q.extents _ (field_nine q.extents mu l₀ (first_sites q.extents p s))

  swept_at : (s : ℕ) → s ≤ half_of q.extents → Swept (new_job q mu p) (link_of q.extents l₀) s (state_at s)
  swept_at s h = record {
    count = first_count s h;
    updated = λ n m. holds s mu n ok.axis (part_inside q.extents p 0 s n m).0 ∙ visited_in (overrelax q.extents mu) mu (link_of q.extents l₀) (first_sites q.extents p s) mu n refl m;
    kept = λ nu n a b out. holds s nu n a b ∙ visited_out (overrelax q.extents mu) mu (link_of q.extents l₀) (first_sites q.extents p s) nu n out;
    len = length-list q.extents _;
    job = refl;
    finished = unfold finished_call answered in rw (asked s h);
  }

-- ## from the opening on

pub opened_state : (q : Plan) (mu p : ℕ) (l : List Float) (ok : Accepted q mu p) (len : length l ≡ 72 * volume q.extents) → open_refusal q mu p ≡ None
    → opened q mu p l ≡ state_at q mu p l ok len 0
unfolding open_call unless stuck_among
opened_state q mu p l ok len e =
    rw e (ap (λ (x : List Float). record { job = new_job q mu p; links = x }) (visits_none q.extents mu l len))

pub frames_are_visits : FramesAreVisits
frames_are_visits q mu p l frames opening misfit =
    let row : open_refusal q mu p ≡ None = unfold open_call in opening.accepted in
    let ok = accepted_opening q mu p opening.four row in
    let start = opened_state q mu p l ok opening.fits row in
    let r = ran q mu p l ok opening.fits frames 0 (omega arith) misfit in
    let s = min (accepted_sum (state_at q mu p l ok opening.fits 0) frames) (half_of q.extents) in
    rw start (rw (r.ends, zero-add _) (swept_at q mu p l ok opening.fits s (omega arith)), r.answers)
