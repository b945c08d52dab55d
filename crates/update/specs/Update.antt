-- The one-link update: `update_link` with `Overrelax`, after Cabibbo and Marinari. Where it has no result, the link is stuck.
use Rattle.std.specs.Prelude.{ℕ, ◌<◌, Bool, cond, List, [], ◌∷◌, ◌≡◌, Float, Result, Ok, Err, is_err}
use Rattle.std.specs.Result.{result_unwrap_or}
use Rattle.std.specs.Float.{binary64}
use Rattle.std.specs.Float.Ieee.{div, lt, of_bits}
use Rattle.mat.specs.declared.Su3.{Su3}
use Rattle.quat.specs.declared.Mat2.{Mat2}
use Rattle.quat.specs.declared.Quat.{Quat}
use Rattle.mat.specs.Matrix.{zero_of, finite_matrix}
use Rattle.mat.specs.Product.{mul_of}
use Rattle.mat.specs.Unitary.{reunitarize_of}
use Rattle.quat.specs.Quaternion.{project_of, quat_norm, quat_conj, quat_mul, to_mat}
use Rattle.quat.specs.Subgroup.{sub_block, left_mul_sub}
use Rattle.geometry.specs.Radix.{volume}
use Rattle.geometry.specs.Shape.{Shape}
use Rattle.geometry.specs.Steps.{parity_of}
use Rattle.links.specs.Field.{Field}
use Rattle.update.specs.declared.Stuck.{Stuck}
use Rattle.gauge.specs.Staple.{staple_of, SameAround, SameOff}

-- ## Stuck links

-- what an update gives: a matrix, or why the link is stuck
abbrev pub Updated : Type 0
Updated = Result Su3 Stuck

abbrev pub is_stuck : Updated → Bool
is_stuck r = is_err r

-- the matrix, or zeros where the link is stuck
abbrev pub updated_link : Updated → Su3
updated_link r = result_unwrap_or r zero_of

-- ## The update

-- v / k
unfoldable pub quat_over : Quat → Float → Quat
quat_over v k = record {
  a0 = div binary64 v.a0 k;
  a1 = div binary64 v.a1 k;
  a2 = div binary64 v.a2 k;
  a3 = div binary64 v.a3 k;
}

-- X = v̂†² with v̂ = v / |v|: the reflection through v̂, which in exact numbers keeps Re Tr(X w); of f64 nothing is claimed
unfoldable pub reflection_of : Quat → Mat2
reflection_of v =
    let h = quat_conj (quat_over v (quat_norm v)) in
    to_mat (quat_mul h h)

-- below 1e-12
unfoldable pub is_short : Float → Bool
is_short k = lt k (of_bits binary64 0x3d71_9799_812d_ea11)

unfoldable pub short_norm : Quat → Bool
short_norm v = is_short (quat_norm v)

-- the reflection, unless the norm is short
unfoldable pub reflected : Quat → Result Mat2 Stuck
reflected v = cond (short_norm v) (Err Stuck.ShortNorm) (Ok (reflection_of v))

-- a result with a number that isn't finite is a stuck link's
unfoldable pub if_finite : Su3 → Updated
if_finite u = cond (finite_matrix u) (Ok u) (Err Stuck.NotFinite)

-- The subgroups in turn: the first short norm ends the update, else the subgroup's rows of u and of w = u·a are multiplied by X. After the last, u is brought back onto SU(3).
unfoldable pub through_subgroups : List ℕ → Su3 → Su3 → Updated
through_subgroups [] u w = if_finite (reunitarize_of u)
through_subgroups (g ∷ gs) u w =
    let v = project_of (sub_block w g) in
    cond (short_norm v) (Err Stuck.ShortNorm)
    (through_subgroups gs (left_mul_sub u g (reflection_of v)) (left_mul_sub w g (reflection_of v)))

-- a link u whose staples' sum is a
unfoldable pub update_link_of : Su3 → Su3 → Updated
update_link_of u a = through_subgroups (0 ∷ 1 ∷ 2 ∷ []) u (mul_of u a)

-- the link U_μ(n)
unfoldable pub update_of : List ℕ → Field → ℕ → ℕ → Updated
update_of d U n mu = update_link_of (U mu n) (staple_of d U n mu)

-- ## Which links it reads

-- its own, and those of its six staples
abbrev pub UpdateIsLocal : Type 0
UpdateIsLocal = (d : List ℕ) (U W : Field) (n mu : ℕ) → U mu n ≡ W mu n → SameAround d U W n mu → update_of d U n mu ≡ update_of d W n mu

-- so at a site of parity p it reads, of the links of direction μ at sites of that parity, its own alone
abbrev pub UpdateReadsNoOther : Type 0
UpdateReadsNoOther =
    (d : List ℕ) → Shape d → (mu p : ℕ) (U W : Field) → mu < 4 → SameOff d mu p U W
    → (n : ℕ) → n < volume d → parity_of d n ≡ p → U mu n ≡ W mu n → update_of d U n mu ≡ update_of d W n mu
