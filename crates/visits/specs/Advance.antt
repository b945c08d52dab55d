-- What a frame's loop leaves.
use Rattle.std.specs.Prelude.{ℕ, ◌≤◌, List, [], ◌∷◌, ◌≡◌, Float, Result, is_err}
use Rattle.gauge.specs.Field.{link_of, list_of}
use Rattle.update.specs.declared.Stuck.{Stuck}
use Rattle.update.specs.Update.{is_stuck, update_of}
use Rattle.visits.specs.Visits.{segment, overrelaxed_field, stuck_count}

-- a visit of one site
pub record Visited (d : List ℕ) (mu n : ℕ) (old : List Float) (r : Result (Unit {0}) Stuck) (new : List Float) : Type 0 where
  pub stuck : is_err r ≡ is_stuck (update_of d (link_of d old) n mu)
  pub links : new ≡ list_of d (overrelaxed_field d mu (link_of d old) (n ∷ []))

-- visits of sites that follow each other
pub record Advanced (d : List ℕ) (mu p from count : ℕ) (old : List Float) (r : ℕ) (new : List Float) : Type 0 where
  pub stuck : r ≡ stuck_count d mu (link_of d old) (segment d p from count)
  pub links : new ≡ list_of d (overrelaxed_field d mu (link_of d old) (segment d p from count))
  pub few : r ≤ count
