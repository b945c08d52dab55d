-- The half-sweep of a cold field in frames: what is visited, and that no link is stuck.
use Rattle.std.proofs.Common.{Result, Ok, None, Float, ℕ, ◌*◌, ◌/◌, ◌<◌, min, false, List, [], ◌∷◌, map, ◌≡◌, refl, ap, subst, sym, ◌∙◌, arith, drop, take-append-drop}
use Rattle.std.proofs.lemmas.List.Sums.{sum_by-cons}
use mathlib.Core.List.{mem-cons_of_mem, Mem, mem-cons_self, mem-append_left}
use lib.Ieee.{sum, add, sub, mul, div, neg, lt, of_int, of_bits, round, units, odd, size, climb, span, of_fields}
use Rattle.rows.specs.declared.Refusal.{Refusal}
use Rattle.rows.specs.Refusals.{answered, unless}
use Rattle.folds.specs.Folds.{fold_to, all_below}
use Rattle.root.specs.Sqrt.{sqrt_of}
use Rattle.complex.specs.Complex.{conj_of, norm_sqr, cscale, cadd, csub, cmul, minor, combination, finite_entry}
use Rattle.mat.specs.Matrix.{identity_of, dagger_of, add_of, finite_matrix}
use Rattle.mat.specs.Product.{row_col, row_row, col_col, mul_of, mul_dag_of, dag_mul_of}
use Rattle.mat.specs.Unitary.{row_of, rows_of, of_rows, ortho_row, unitary_of, reunitarize_of}
use Rattle.quat.specs.Quaternion.{project_of, quat_norm, quat_conj, quat_mul, to_mat}
use Rattle.quat.specs.Subgroup.{subgroup_of, subgroup_refusal, block_of, sub_block, with_row, left_mul_rows, left_mul_sub}
use Rattle.complex.specs.Row.{conj_dot, row_scale, row_norm_sqr, row_sub_mul, row_combination, unit_row, cross_conj}
use Rattle.gauge.specs.Staple.{add_staples, staples_to, staple_of}
use Rattle.geometry.specs.Radix.{volume}
use Rattle.geometry.specs.Order.{sites_of, half_of}
use Rattle.geometry.proofs.Members.{site_inside}
use Rattle.geometry.proofs.Neighbour.{fwd_below, bwd_below}
use Rattle.links.specs.Field.{Field}
use Rattle.update.specs.Update.{Updated, is_stuck, quat_over, reflection_of, is_short, short_norm, if_finite, through_subgroups, update_link_of, update_of}
use Rattle.update.proofs.UpdateLaws.{update_is_local}
use Rattle.visits.specs.Visits.{stuck_among, overrelax}
use Rattle.sweep.specs.RunOfFrames.{on_field, RunState, answer_of, next, run, accepted_sum, Answered, opened, OthersMisfit, Opening, first_sites}
use Rattle.sweep.proofs.RunOfFrames.{frames_are_visits}
use Rattle.lattice.specs.Cold.{cold_links}
use Rattle.lattice.proofs.ColdLinks.{every_link_is_identity}
use Rattle.geometry.specs.Steps.{fwd_of, bwd_of, total}
use Rattle.sweep.specs.declared.Job.{Job}
use Rattle.lattice.specs.declared.Plan.{Plan}
use Rattle.sweep.specs.Jobs.{open_call, new_job, counted, OpenCall, FrameCall}
use Rattle.measurements.specs.Measurements.{Small, cold_plan, cold_field, job_after, frames_of}
use Rattle.measurements.proofs.Sites.{by_sites}
use Rattle.measurements.proofs.Passes.{len, open_passes}

-- ## no link is stuck

abbrev identities : Field
identities mu n = identity_of

free : (d : List ℕ) (n : ℕ) → is_stuck (update_of d identities n 0) ≡ false
unfolding update_of update_link_of through_subgroups if_finite short_norm is_short reflection_of quat_over project_of quat_norm quat_conj quat_mul to_mat subgroup_of subgroup_refusal block_of sub_block with_row left_mul_rows left_mul_sub row_of rows_of of_rows ortho_row unitary_of reunitarize_of conj_dot row_scale row_norm_sqr row_sub_mul row_combination unit_row cross_conj combination norm_sqr minor staple_of staples_to add_staples add_of dagger_of mul_of mul_dag_of dag_mul_of row_col row_row col_col finite_matrix finite_entry sqrt_of fold_to all_below cadd csub cmul cscale conj_of add sub mul div neg lt of_int of_bits round sum units odd size climb span of_fields
free d n = refl

none_stuck : (update : Field → ℕ → Updated) (U : Field) (sites : List ℕ) → ((n : ℕ) → Mem n sites → is_stuck (update U n) ≡ false) → stuck_among update U sites ≡ 0
unfolding stuck_among
none_stuck update U [] h = refl
none_stuck update U (n ∷ ns) h =
    let here = h n mem-cons_self in
    let others = none_stuck update U ns (λ m k. h m (mem-cons_of_mem n k)) in
    simp sum_by-cons (rw (here, others))

-- ## sizes add up

accepted_all : (b : RunState) (sizes : List ℕ) → Answered b (map on_field sizes) → accepted_sum b (map on_field sizes) ≡ total sizes
unfolding accepted_sum Answered total unless
accepted_all b [] a = refl
accepted_all b (k ∷ ks) a = rw (a.0, accepted_all (next b (on_field k)) ks a.1)

-- ## a half-sweep that is accepted

-- no other list is lent
misfits : (n : ℕ) (sizes : List ℕ) → OthersMisfit n (map on_field sizes)
unfolding OthersMisfit
misfits n [] = tt
misfits n (k ∷ ks) = misfits n ks

module _ (q : Plan) (l : List Float) (opening : Opening q 0 0 l) where
  abbrev start : RunState
  start = opened q 0 0 l

  pass : Answered start (map on_field (3 ∷ 0 ∷ 9 ∷ []))
  pass = (frames_are_visits q 0 0 l (map on_field (3 ∷ 0 ∷ 9 ∷ [])) opening (misfits (72 * volume q.extents) (3 ∷ 0 ∷ 9 ∷ []))).1

  -- a frame that is accepted takes a state to the next
  frame_step : (b : RunState) (size : ℕ) {j n : Job} {k m : List Float} {r : Result (Unit {0}) Refusal} → j ≡ b.job → k ≡ b.links → FrameCall j size k r n m → (answer_of b (on_field size)).refusal ≡ None
      → (r ≡ Ok tt) × (n ≡ (next b (on_field size)).job) × (m ≡ (next b (on_field size)).links)
  unfolding answered
  frame_step b size e f call none = let on_state = rw (e, f) at call in (rw (on_state.answer, none), on_state.job, on_state.links)

  module _ {r : Result Job Refusal} {q' : Plan} (opens : OpenCall q 0 0 r q') where
    pub open_accepted : r ≡ Ok start.job
    unfolding answered
    open_accepted = rw (opens.answer, opening.accepted)

    module _ {j : Job} (e : r ≡ Ok j) {r3 : Result (Unit {0}) Refusal} {j3 : Job} {l3 : List Float} (frame3 : FrameCall j 3 l r3 j3 l3) where
      pub first : (r3 ≡ Ok tt) × (j3 ≡ (next start (on_field 3)).job) × (l3 ≡ (next start (on_field 3)).links)
      unfolding Answered
      first = let both = sym e ∙ open_accepted in frame_step start 3 (cc) refl frame3 pass.0

      module _ {r0 : Result (Unit {0}) Refusal} {j0 : Job} {l0 : List Float} (frame0 : FrameCall j3 0 l3 r0 j0 l0) where
        pub second : (r0 ≡ Ok tt) × (j0 ≡ (next (next start (on_field 3)) (on_field 0)).job) × (l0 ≡ (next (next start (on_field 3)) (on_field 0)).links)
        unfolding Answered
        second = frame_step (next start (on_field 3)) 0 first.1 first.2 frame0 pass.1.0

        module _ {r9 : Result (Unit {0}) Refusal} {j9 : Job} {l9 : List Float} (frame9 : FrameCall j0 9 l0 r9 j9 l9) where
          pub third : (r9 ≡ Ok tt) × (j9 ≡ (next (next (next start (on_field 3)) (on_field 0)) (on_field 9)).job) × (l9 ≡ (next (next (next start (on_field 3)) (on_field 0)) (on_field 9)).links)
          unfolding Answered
          third = frame_step (next (next start (on_field 3)) (on_field 0)) 9 second.1 second.2 frame9 pass.1.1.0

          pub all_frames : record { frame3 = j3.visited; frame0 = j0.visited; frame9 = j9.visited; stuck = j9.stuck } ≡ frames_of q l
          unfolding frames_of run
          all_frames = rw (first.1, second.1, third.1)

-- ## the frames

module _ (d : List ℕ) (small : Small d) where
  abbrev cold : (mu n : ℕ) → mu < 4 → n < volume d → cold_field d mu n ≡ identity_of
  cold = every_link_is_identity d

  -- the update at a site is that of a field of identities
  update_same : (n : ℕ) → n < volume d → update_of d (cold_field d) n 0 ≡ update_of d identities n 0
  update_same n h =
      let s = small.shape in
      let ahead = fwd_below d s n 0 (omega arith) in
      update_is_local d (cold_field d) identities n 0 (cold 0 n (omega arith) h)
      (record {
        ahead = λ nu a ne. cold nu (fwd_of d n 0) a ahead;
        above = λ nu a ne. cold 0 (fwd_of d n nu) (omega arith) (fwd_below d s n nu a);
        here = λ nu a ne. cold nu n a h;
        corner = λ nu a ne. cold nu (bwd_of d (fwd_of d n 0) nu) a (bwd_below d s (fwd_of d n 0) nu a);
        below = λ nu a ne. cold 0 (bwd_of d n nu) (omega arith) (bwd_below d s n nu a);
        behind = λ nu a ne. cold nu (bwd_of d n nu) a (bwd_below d s n nu a);
      })

  all_free : (s : ℕ) → stuck_among (overrelax d 0) (cold_field d) (first_sites d 0 s) ≡ 0
  all_free s = none_stuck (overrelax d 0) (cold_field d) (first_sites d 0 s) (λ n m. ap is_stuck (update_same n (site_inside d 0 n (subst (Mem n) (take-append-drop s (sites_of d 0)) (mem-append_left (drop s (sites_of d 0)) m))).0) ∙ free d n)

  pub opening : Opening (cold_plan d) 0 0 (cold_links d)
  unfolding open_call
  opening = record { four = small.shape.four; accepted = open_passes d small; fits = len d small }

  job_after_lem : (sizes : List ℕ) → job_after (cold_plan d) (cold_links d) (map on_field sizes) ≡ counted (new_job (cold_plan d) 0 0) (min (total sizes) (half_of d)) 0
  job_after_lem sizes =
      let both = frames_are_visits (cold_plan d) 0 0 (cold_links d) (map on_field sizes) opening (misfits (72 * volume d) sizes) in
      both.0.job ∙ rw (accepted_all (opened (cold_plan d) 0 0 (cold_links d)) sizes both.1, all_free (min (total sizes) (half_of d)))

  three : min 3 (half_of d) ≡ 3
  unfolding half_of
  three = by_sites d small (λ v. min 3 (v / 2) ≡ 3) refl refl refl refl

  pub frames_cold : frames_of (cold_plan d) (cold_links d) ≡ record { frame3 = 3; frame0 = 3; frame9 = min 12 (half_of d); stuck = 0 }
  unfolding frames_of total half_of
  frames_cold = rw (job_after_lem (3 ∷ []), job_after_lem (3 ∷ 0 ∷ []), job_after_lem (3 ∷ 0 ∷ 9 ∷ []), three)
