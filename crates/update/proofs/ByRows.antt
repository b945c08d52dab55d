-- The update by rows, as the code takes it: what a subgroup leaves of u and w, and what it reads of w.
use Rattle.std.proofs.Common.{ℕ, Bool, true, false, cond, List, [], ◌∷◌, ◌≡◌, ◌∙◌, refl, sym, length, Result, Ok, Err, IsErrAnd}
use Rattle.std.proofs.lemmas.Result.{err_from_is_err_and}
use Rattle.complex.specs.declared.C64.{C64}
use Rattle.quat.specs.declared.Mat2.{Mat2}
use Rattle.quat.specs.declared.Quat.{Quat}
use Rattle.complex.specs.declared.Row.{Row}
use Rattle.mat.specs.declared.Su3.{Su3}
use Rattle.complex.specs.Complex.{combination}
use Rattle.complex.specs.Row.{row_combination}
use Rattle.mat.specs.Product.{mul_of}
use Rattle.mat.specs.Unitary.{row_of, of_rows, unitary_of, reunitarize_of}
use Rattle.quat.specs.Quaternion.{project_of}
use Rattle.quat.specs.Subgroup.{subgroup_of, block_of, sub_block, with_row, left_mul_rows, left_mul_sub}
use Rattle.mat.proofs.Tables.{rows_are}
use Rattle.update.specs.declared.Stuck.{Stuck}
use Rattle.update.specs.Update.{Updated, reflected, short_norm, reflection_of, if_finite, through_subgroups, update_link_of}

-- ## One subgroup

module _ (g : ℕ) (gs : List ℕ) (u w : Su3) {v : Quat} (block : v ≡ project_of (sub_block w g)) {x : Result Mat2 Stuck} (step : x ≡ reflected v) where
  -- its norm is short
  pub ends : {e : Stuck} → x ≡ Err e → (r : Updated) → IsErrAnd r (λ y. y ≡ e) → r ≡ through_subgroups (g ∷ gs) u w
  unfolding through_subgroups reflected
  ends {e} h r err =
      let stuck = err_from_is_err_and r err in
      rw (stuck.1, stuck.2, ← block) (go (short_norm v) (sym step ∙ h))
    where
      go : (b : Bool) → cond b (Err Stuck.ShortNorm) (Ok (reflection_of v)) ≡ Err e → Err e ≡ cond b (Err Stuck.ShortNorm) (through_subgroups gs (left_mul_sub u g (reflection_of v)) (left_mul_sub w g (reflection_of v)))
      go true h = cc
      go false h = cc

  pub goes_on : {m : Mat2} → x ≡ Ok m → {u' w' : Su3} → left_mul_sub u g m ≡ u' → left_mul_sub w g m ≡ w' → {r : Updated} → r ≡ through_subgroups gs u' w' → r ≡ through_subgroups (g ∷ gs) u w
  unfolding through_subgroups reflected
  goes_on {m} h {u'} {w'} p q rest = rw (rest, ← block) (go (short_norm v) (sym step ∙ h))
    where
      go : (b : Bool) → cond b (Err Stuck.ShortNorm) (Ok (reflection_of v)) ≡ Ok m → through_subgroups gs u' w' ≡ cond b (Err Stuck.ShortNorm) (through_subgroups gs (left_mul_sub u g (reflection_of v)) (left_mul_sub w g (reflection_of v)))
      go true h = cc
      go false h = cc

-- ## The rows that a subgroup leaves, and the block that it reads

module _ (a b c : Row) where
  pub first_rows : (x : Mat2) {p q : Row} → p ≡ row_combination x.m00 a x.m01 b → q ≡ row_combination x.m10 a x.m11 b → left_mul_sub (of_rows a b c) 0 x ≡ of_rows p q c
  unfolding left_mul_sub left_mul_rows subgroup_of with_row row_of of_rows
  first_rows x e f = rw (e, f)

  pub second_rows : (x : Mat2) {p q : Row} → p ≡ row_combination x.m00 a x.m01 c → q ≡ row_combination x.m10 a x.m11 c → left_mul_sub (of_rows a b c) 1 x ≡ of_rows p b q
  unfolding left_mul_sub left_mul_rows subgroup_of with_row row_of of_rows
  second_rows x e f = rw (e, f)

  pub third_rows : (x : Mat2) → left_mul_sub (of_rows a b c) 2 x ≡ of_rows a (row_combination x.m00 b x.m01 c) (row_combination x.m10 b x.m11 c)
  unfolding left_mul_sub left_mul_rows subgroup_of with_row row_of of_rows
  third_rows x = refl

  pub first_block : {v : Quat} → v ≡ project_of (record { m00 = a.c0; m01 = a.c1; m10 = b.c0; m11 = b.c1 }) → v ≡ project_of (sub_block (of_rows a b c) 0)
  unfolding sub_block block_of subgroup_of of_rows
  first_block e = e

  pub second_block : {v : Quat} → v ≡ project_of (record { m00 = a.c0; m01 = a.c2; m10 = c.c0; m11 = c.c2 }) → v ≡ project_of (sub_block (of_rows a b c) 1)
  unfolding sub_block block_of subgroup_of of_rows
  second_block e = e

  -- of w the first leaves this for the second, which doesn't read the first entry of the second row
  pub for_second : (x : Mat2) {p : Row} {e f : C64} → p ≡ row_combination x.m00 a x.m01 b → e ≡ combination x.m10 a.c1 x.m11 b.c1 → f ≡ combination x.m10 a.c2 x.m11 b.c2
      → left_mul_sub (of_rows a b c) 0 x ≡ of_rows p (record { c0 = combination x.m10 a.c0 x.m11 b.c0; c1 = e; c2 = f }) c
  unfolding row_combination
  for_second x k l m = rw (k, l, m) (first_rows x refl refl)

  -- and the second this for the third
  pub for_third : (x : Mat2) {v : Quat} {g h : C64} → g ≡ combination x.m10 a.c1 x.m11 c.c1 → h ≡ combination x.m10 a.c2 x.m11 c.c2
      → v ≡ project_of (record { m00 = b.c1; m01 = b.c2; m10 = g; m11 = h }) → project_of (sub_block (left_mul_sub (of_rows a b c) 1 x) 2) ≡ v
  unfolding sub_block block_of subgroup_of of_rows row_combination
  for_third x k l m = rw (second_rows x refl refl, m, k, l)

  pub unitary_rows : reunitarize_of (of_rows a b c) ≡ unitary_of a b
  unfolding reunitarize_of row_of of_rows
  unitary_rows = refl

  pub at_end : (w : Su3) → if_finite (unitary_of a b) ≡ through_subgroups [] (of_rows a b c) w
  unfolding through_subgroups
  at_end w = rw unitary_rows

-- ## The link and its product with the staples' sum

mul_nine : (u a : Su3) → length (mul_of u a).m ≡ 9
unfolding mul_of
mul_nine u a = refl

pub by_rows : (u a : Su3) → length u.m ≡ 9 → {w : Su3} → w ≡ mul_of u a
    → through_subgroups (0 ∷ 1 ∷ 2 ∷ []) (of_rows (row_of u 0) (row_of u 1) (row_of u 2)) (of_rows (row_of w 0) (row_of w 1) (row_of w 2)) ≡ update_link_of u a
unfolding update_link_of
by_rows u a nine {w} e = rw (← rows_are u nine, ← rows_are w (rw e (mul_nine u a)), e)
