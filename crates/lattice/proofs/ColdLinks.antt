-- The cold start's loop leaves identities, and a list of as many as it has links is that of the cold field.
use Prim.Native.Nat.{ℕ, ◌+◌, ◌*◌, ◌<◌, ◌≤◌}
use mathlib.Core.List.{List}
use mathlib.Core.Path.{◌≡◌, refl, ◌∙◌}
use native.Mathlib.Decide.{dec_lt}
use native.Mathlib.Omega.{arith}
use lib.Ieee.{Float}
use lib.ListN.{length}
use Rattle.mat.specs.Matrix.{identity_of}
use Rattle.links.specs.Store.{matrix_at, with_matrix}
use Rattle.links.specs.Field.{link_number}
use Rattle.links.proofs.Laws.{link_same, link_other, number_below}
use Rattle.geometry.specs.Radix.{volume}
use Rattle.gauge.proofs.Lists.{list_holds, links_of}
use Rattle.lattice.specs.Cold.{cold_links, Identities, EveryLinkIsIdentity}

pub identities_next : (l : List Float) (k : ℕ) → 18 * k + 18 ≤ length l → Identities l k → Identities (with_matrix l (18 * k) identity_of) (k + 1)
identities_next l k room all j h = go (dec_lt j k)
  where
    go : Dec (j < k) → matrix_at (with_matrix l (18 * k) identity_of) (18 * j) ≡ identity_of
    go (yes q) = link_other l k identity_of j (omega arith) ∙ all j q
    go (no q) = let e : j ≡ k = omega arith in rw e (link_same l k identity_of room refl)

pub identities_are_cold : (d : List ℕ) (l : List Float) → length l ≡ 72 * volume d → Identities l (4 * volume d) → l ≡ cold_links d
unfolding cold_links
identities_are_cold d l len all = list_holds d l len (λ mu n axis below. all (link_number (volume d) mu n) (number_below (volume d) mu n axis below))

pub every_link_is_identity : EveryLinkIsIdentity
unfolding cold_links
every_link_is_identity d = links_of d (λ mu n. identity_of) (λ mu n. refl)
