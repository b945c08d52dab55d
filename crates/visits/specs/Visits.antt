-- Visits of sites: the links of one direction there are updated, all of them from the field as it stood before. A stuck link is kept.
use Rattle.std.specs.Prelude.{ℕ, List, take, drop, count_by}
use Rattle.std.specs.Result.{result_unwrap_or}
use mathlib.Core.List.{dec_mem}
use Rattle.std.proofs.Math.Logic.{ite}
use Rattle.std.proofs.Math.Logic.Dec
use Rattle.std.proofs.Math.Decide.{ℕ_discrete}
use Rattle.mat.specs.declared.Su3.{Su3}
use Rattle.geometry.specs.Order.{sites_of}
use Rattle.links.specs.Field.{Field}
use Rattle.update.specs.Update.{Updated, is_stuck, update_of}

-- what a visit leaves of a link
unfoldable pub visited_link : Updated → Su3 → Su3
visited_link r old = result_unwrap_or r old

-- for any update of the link at a site
module _ (update : Field → ℕ → Updated) where
  -- the field after visits of the links of direction μ at these sites
  unfoldable pub visited_field : ℕ → Field → List ℕ → Field
  visited_field mu U sites nu n =
      ite (Dec.and (ℕ_discrete nu mu) (dec_mem ℕ_discrete n sites)) (visited_link (update U n) (U nu n)) (U nu n)

  -- how many of these sites have a stuck link in U
  unfoldable pub stuck_among : Field → List ℕ → ℕ
  stuck_among U sites = count_by (λ n. is_stuck (update U n)) sites

-- sites of a parity that follow each other, from the from-th on: so many, or all that are left
abbrev pub segment : List ℕ → ℕ → ℕ → ℕ → List ℕ
segment d p from count = take count (drop from (sites_of d p))

-- ## Overrelaxation

abbrev pub overrelax : List ℕ → ℕ → Field → ℕ → Updated
overrelax d mu U n = update_of d U n mu

abbrev pub overrelaxed_field : List ℕ → ℕ → Field → List ℕ → Field
overrelaxed_field d mu = visited_field (overrelax d mu) mu

abbrev pub stuck_count : List ℕ → ℕ → Field → List ℕ → ℕ
stuck_count d mu = stuck_among (overrelax d mu)
