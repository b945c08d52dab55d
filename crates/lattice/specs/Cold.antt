-- The cold start: every link is the identity.
use Rattle.std.specs.Prelude.{ℕ, ◌*◌, ◌<◌, List, ◌≡◌, Float, length, Option, Result}
use Rattle.rows.specs.declared.Refusal.{Refusal}
use Rattle.rows.specs.Refusals.{first_refusal, answered, unless}
use Rattle.mat.specs.Matrix.{identity_of}
use Rattle.links.specs.Store.{matrix_at}
use Rattle.geometry.specs.Radix.{volume}
use Rattle.gauge.specs.Field.{link_of, list_of}
use Rattle.lattice.specs.declared.Plan.{Plan}
use Rattle.field_checks.specs.Refusals.{plan_rows}

-- the list of a cold field
unfoldable pub cold_links : List ℕ → List Float
cold_links d = list_of d (λ mu n. identity_of)

-- the first k matrices of a list are the identity
abbrev pub Identities : List Float → ℕ → Type 0
Identities l k = (j : ℕ) → j < k → matrix_at l (18 * j) ≡ identity_of

abbrev pub new_plan : List ℕ → Float → ℕ → Plan
new_plan d c seed = record { extents = d; coupling = c; seed = seed; pass = 0 }

abbrev pub cold_refusal : List ℕ → Float → List Float → Option Refusal
cold_refusal d c l = first_refusal (plan_rows d c (length l))

-- the answer, and the list afterwards
pub record ColdCall (d : List ℕ) (c : Float) (seed : ℕ) (old : List Float) (r : Result Plan Refusal) (new : List Float) : Type 0 where
  pub answer : r ≡ answered (cold_refusal d c old) (new_plan d c seed)
  pub links : new ≡ unless (cold_refusal d c old) (cold_links d) old

-- every link of the list is the identity
abbrev pub EveryLinkIsIdentity : Type 0
EveryLinkIsIdentity = (d : List ℕ) (mu n : ℕ) → mu < 4 → n < volume d → link_of d (cold_links d) mu n ≡ identity_of
