-- What a host is given by a call: the refusal's number, 0 where there is none, and the answer's numbers in an array, zeros where it is refused.
use Rattle.std.specs.Prelude.{ℕ, ◌≡◌, List, [], ◌∷◌, Float, Option, Result}
use Rattle.rows.specs.declared.Refusal.{Refusal}
use Rattle.rows.specs.Numbers.{number_in}
use Rattle.rows.specs.Refusals.{refusal_in, value_or, unless}
use Rattle.complex.specs.declared.C64.{C64}
use Rattle.complex.specs.Rounded.{fzero}
use Rattle.complex.specs.Complex.{czero}
use Rattle.mat.specs.declared.Su3.{Su3}
use Rattle.mat.specs.Matrix.{zero_of}
use Rattle.quat.specs.declared.Mat2.{Mat2}
use Rattle.complex.specs.Numbers.{pair_numbers}
use Rattle.mat.specs.Numbers.{matrix_numbers}
use Rattle.quat.specs.Numbers.{block_numbers}
use Rattle.arrays.specs.Arrays.{plane_numbers}

pub record Given {A B : Type 0} (numbers : A → List B) (refused : A) (answer : Result A Refusal) (r : ℕ) (out : List B) : Type 0 where
  pub refusal : r ≡ number_in (refusal_in answer)
  pub array : out ≡ numbers (value_or refused answer)

abbrev pub MatrixGiven : Result Su3 Refusal → ℕ → List Float → Type 0
MatrixGiven = Given matrix_numbers zero_of

abbrev pub StrengthGiven : Result (List Su3) Refusal → ℕ → List Float → Type 0
StrengthGiven = Given plane_numbers (zero_of ∷ zero_of ∷ zero_of ∷ zero_of ∷ zero_of ∷ zero_of ∷ [])

-- the 2×2 matrix of zeros
abbrev pub zero_block : Mat2
zero_block = record { m00 = czero; m01 = czero; m10 = czero; m11 = czero }

abbrev pub BlockGiven : Result Mat2 Refusal → ℕ → List Float → Type 0
BlockGiven = Given block_numbers zero_block

abbrev pub PairGiven : Result C64 Refusal → ℕ → List Float → Type 0
PairGiven = Given pair_numbers czero

-- a count, and a number, in an array of one
abbrev pub CountGiven : Result ℕ Refusal → ℕ → List ℕ → Type 0
CountGiven = Given (λ n. n ∷ []) 0

abbrev pub NumberGiven : Result Float Refusal → ℕ → List Float → Type 0
NumberGiven = Given (λ x. x ∷ []) fzero

abbrev pub CoordsGiven : Result (List ℕ) Refusal → ℕ → List ℕ → Type 0
CoordsGiven = Given (λ c. c) (0 ∷ 0 ∷ 0 ∷ 0 ∷ [])

-- a list that the call fills, or that it leaves where it is refused
pub record Filled {A : Type 0} (refusal : Option Refusal) (new old : List A) (r : ℕ) (exit : List A) : Type 0 where
  pub row : r ≡ number_in refusal
  pub list : exit ≡ unless refusal new old
