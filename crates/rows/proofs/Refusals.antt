-- What an answer carries, and a check whose rows are the first of more.
use Rattle.std.proofs.Common.{ℕ, ◌≡◌, ◌≤◌, Bool, true, false, cond, List, [], ◌∷◌, ◌++◌, Option, None, Some, Result, Ok, Err, IfOk, refl, sym, ◌∙◌, arith}
use Rattle.rows.specs.declared.Refusal.{Refusal}
use Rattle.rows.specs.Refusals.{first_refusal, answered, refusal_in, value_or, Checked}

pub refusal_answered : {A : Type 0} (refusal : Option Refusal) (value : A) → refusal_in (answered refusal value) ≡ refusal
unfolding refusal_in answered
refusal_answered None value = refl
refusal_answered (Some e) value = refl

pub value_low : (m : ℕ) (r : Result ℕ Refusal) → IfOk r (λ n. n ≤ m) → value_or 0 r ≤ m
unfolding value_or
value_low m (Ok n) low = low
value_low m (Err e) low = omega arith

-- ## rows before others

rows_refuse : (refusal : Refusal) (rows more : List (Bool × Refusal)) → first_refusal rows ≡ Some refusal → first_refusal (rows ++ more) ≡ Some refusal
unfolding first_refusal
rows_refuse refusal [] more some = cc
rows_refuse refusal (row ∷ rows) more some = go row.0 some (rows_refuse refusal rows more)
  where
    go : (b : Bool) → cond b (Some row.1) (first_refusal rows) ≡ Some refusal → (first_refusal rows ≡ Some refusal → first_refusal (rows ++ more) ≡ Some refusal)
        → cond b (Some row.1) (first_refusal (rows ++ more)) ≡ Some refusal
    go true some rest = some
    go false some rest = rest some

rows_pass : (rows more : List (Bool × Refusal)) → first_refusal rows ≡ None → first_refusal (rows ++ more) ≡ first_refusal more
unfolding first_refusal
rows_pass [] more none = refl
rows_pass (row ∷ rows) more none = go row.0 none (rows_pass rows more)
  where
    go : (b : Bool) → cond b (Some row.1) (first_refusal rows) ≡ None → (first_refusal rows ≡ None → first_refusal (rows ++ more) ≡ first_refusal more)
        → cond b (Some row.1) (first_refusal (rows ++ more)) ≡ first_refusal more
    go true none rest = cc
    go false none rest = rest none

module _ {A : Type 0} {rows : List (Bool × Refusal)} {Made : A → Type 0} {r : Result A Refusal} (first : Checked rows Made r) (more : List (Bool × Refusal)) where
  pub first_refuses : {B : Type 0} {Further : B → Type 0} {refusal : Refusal} → r ≡ Err refusal → Checked (rows ++ more) Further (Err refusal)
  unfolding refusal_in
  first_refuses e = record { refusal = sym (rows_refuse _ rows more (sym first.refusal ∙ rw e)); made = tt }

  pub first_passes : {x : A} → r ≡ Ok x → first_refusal (rows ++ more) ≡ first_refusal more
  unfolding refusal_in
  first_passes e = rows_pass rows more (sym first.refusal ∙ rw e)
