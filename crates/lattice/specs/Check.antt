-- The link check: the unsound links' numbers, each once, in some order, at the front of the list. Their order is left open.
use Rattle.std.specs.Prelude.{ℕ, List, ◌≡◌, ◌≢◌, Float, length, Option, None, Result}
use Rattle.rows.specs.declared.Refusal.{Refusal}
use Rattle.rows.specs.Refusals.{first_refusal, answered}
use Rattle.gauge.specs.Field.{link_of}
use Rattle.sound.specs.Sound.{unsound_links, Listed}
use Rattle.field_checks.specs.Refusals.{link_check_rows}

abbrev pub check_refusal : List ℕ → List Float → List ℕ → Option Refusal
check_refusal d l found = first_refusal (link_check_rows d (length l) (length found))

-- what the list holds afterwards; refused, it is as it was
pub record CheckList (d : List ℕ) (l : List Float) (old new : List ℕ) : Type 0 where
  pub listed : check_refusal d l old ≡ None → Listed (unsound_links d (link_of d l)) old (length (unsound_links d (link_of d l))) new
  pub kept : check_refusal d l old ≢ None → new ≡ old

pub record CheckCall (d : List ℕ) (l : List Float) (old : List ℕ) (r : Result ℕ Refusal) (new : List ℕ) : Type 0 where
  pub answer : r ≡ answered (check_refusal d l old) (length (unsound_links d (link_of d l)))
  pub list : CheckList d l old new
