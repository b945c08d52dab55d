-- The scope's table of refusals: a call's rows are tried in order, and the first situation that holds refuses the call.
use Rattle.std.specs.Prelude.{Bool, cond, List, [], ◌∷◌, ◌≡◌, Option, None, Some, Result, Ok, Err, IfOk}
use Rattle.rows.specs.declared.Refusal.{Refusal}

-- situations with their refusals; none where no situation holds
unfoldable pub first_refusal : List (Bool × Refusal) → Option Refusal
first_refusal [] = None
first_refusal (row ∷ rows) = cond row.0 (Some row.1) (first_refusal rows)

-- a row that is tried after the others, whatever its place in the table
unfoldable pub finally : Option Refusal → Bool × Refusal → Option Refusal
finally None last = first_refusal (last ∷ [])
finally (Some refusal) last = Some refusal

-- what a call answers: the value, or the refusal
unfoldable pub answered : {A : Type 0} → Option Refusal → A → Result A Refusal
answered None value = Ok value
answered (Some refusal) value = Err refusal

-- what a lent list, or a value that is handed in, holds afterwards: the first, or if refused the second
unfoldable pub unless : {A : Type 0} → Option Refusal → A → A → A
unless None new old = new
unless (Some refusal) new old = old

-- the refusal that an answer carries
unfoldable pub refusal_in : {A : Type 0} → Result A Refusal → Option Refusal
refusal_in (Ok value) = None
refusal_in (Err refusal) = Some refusal

-- the value that an answer carries, or what stands for it where it is refused
unfoldable pub value_or : {A : Type 0} → A → Result A Refusal → A
value_or refused (Ok value) = value
value_or refused (Err refusal) = refused

-- the answer of a check: the first refusal of the rows, and where there is none what is made of the inputs
pub record Checked {A : Type 0} (rows : List (Bool × Refusal)) (Made : A → Type 0) (r : Result A Refusal) : Type 0 where
  pub refusal : refusal_in r ≡ first_refusal rows
  pub made : IfOk r Made
