-- Laws of the update: it is a matrix of nine, and it reads its own link and those of its six staples alone.
use Rattle.std.proofs.Common.{Bool, true, false, cond, List, [], ◌∷◌, ◌≡◌, refl, ℕ, length, Ok, Err}
use Rattle.mat.specs.declared.Su3.{Su3}
use Rattle.mat.specs.Matrix.{finite_matrix}
use Rattle.mat.specs.Product.{mul_of}
use Rattle.mat.specs.Unitary.{of_rows, unitary_of, reunitarize_of}
use Rattle.quat.specs.Quaternion.{project_of}
use Rattle.quat.specs.Subgroup.{sub_block, left_mul_sub}
use Rattle.std.specs.Result.{result_unwrap_or}
use Rattle.update.specs.declared.Stuck.{Stuck}
use Rattle.update.specs.Update.{Updated, short_norm, reflection_of, if_finite, through_subgroups, update_link_of, update_of, UpdateIsLocal, UpdateReadsNoOther}
use Rattle.gauge.proofs.Locality.{staple_is_local, none_around}

-- ## Nine entries

abbrev Nine : Updated → Type 0
Nine r = (old : Su3) → length old.m ≡ 9 → length (result_unwrap_or r old).m ≡ 9

either_nine : (b : Bool) (r s : Updated) → Nine r → Nine s → Nine (cond b r s)
either_nine true r s h k = h
either_nine false r s h k = k

unitary_nine : (u : Su3) → length (reunitarize_of u).m ≡ 9
unfolding reunitarize_of unitary_of of_rows
unitary_nine u = refl

through_nine : (gs : List ℕ) (u w : Su3) → Nine (through_subgroups gs u w)
unfolding through_subgroups if_finite
through_nine [] u w = either_nine (finite_matrix (reunitarize_of u)) (Ok (reunitarize_of u)) (Err Stuck.NotFinite) (λ old h. unitary_nine u) (λ old h. h)
through_nine (g ∷ gs) u w =
    let x = reflection_of (project_of (sub_block w g)) in
    either_nine (short_norm (project_of (sub_block w g))) (Err Stuck.ShortNorm) _ (λ old h. h) (through_nine gs (left_mul_sub u g x) (left_mul_sub w g x))

-- whatever stands in for a stuck link's update
pub updated_nine : (u a old : Su3) → length old.m ≡ 9 → length (result_unwrap_or (update_link_of u a) old).m ≡ 9
unfolding update_link_of
updated_nine u a = through_nine (0 ∷ 1 ∷ 2 ∷ []) u (mul_of u a)

-- ## Which links it reads

pub update_is_local : UpdateIsLocal
unfolding update_of
update_is_local d U W n mu here same = rw (here, staple_is_local d U W n mu same)

pub update_reads_no_other : UpdateReadsNoOther
update_reads_no_other d shape mu p U W axis same n inside parity here = update_is_local d U W n mu here (none_around d shape mu p U W axis same n inside parity)
