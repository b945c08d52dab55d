-- What the calls that read a field answer: the value, or the first refusal of the call's rows.
use Rattle.std.specs.Prelude.{ℕ, List, Float, length, Result}
use Rattle.rows.specs.declared.Refusal.{Refusal}
use Rattle.rows.specs.Refusals.{first_refusal, finally, answered}
use Rattle.complex.specs.declared.C64.{C64}
use Rattle.mat.specs.declared.Su3.{Su3}
use Rattle.geometry.specs.Radix.{volume, coords_of, index_of}
use Rattle.geometry.specs.Steps.{fwd_of, bwd_of, parity_of}
use Rattle.gauge.specs.Field.{link_of}
use Rattle.gauge.specs.Plaquette.{plaquette_of, average_of, action_of}
use Rattle.gauge.specs.Staple.{staple_of}
use Rattle.gauge.specs.Polyakov.{polyakov_of}
use Rattle.lattice.specs.declared.Plan.{Plan}
use Rattle.field_checks.specs.Situations.{bad_number, bad_pair, bad_matrix}
use Rattle.field_checks.specs.Refusals.{extents_rows, site_rows, coords_rows, step_rows, field_rows, plan_rows, plane_rows, link_rows}

-- ## Sites

unfoldable pub n_sites_call : List ℕ → Result ℕ Refusal
n_sites_call d = answered (first_refusal (extents_rows d)) (volume d)

unfoldable pub coords_call : List ℕ → ℕ → Result (List ℕ) Refusal
coords_call d n = answered (first_refusal (site_rows d n)) (coords_of d n)

unfoldable pub index_call : List ℕ → List ℕ → Result ℕ Refusal
index_call d at = answered (first_refusal (coords_rows d at)) (index_of d at)

unfoldable pub parity_call : List ℕ → ℕ → Result ℕ Refusal
parity_call d n = answered (first_refusal (site_rows d n)) (parity_of d n)

unfoldable pub fwd_call : List ℕ → ℕ → ℕ → Result ℕ Refusal
fwd_call d n mu = answered (first_refusal (step_rows d n mu)) (fwd_of d n mu)

unfoldable pub bwd_call : List ℕ → ℕ → ℕ → Result ℕ Refusal
bwd_call d n mu = answered (first_refusal (step_rows d n mu)) (bwd_of d n mu)

-- ## Observables: a number that isn't finite is refused last

unfoldable pub plaquette_call : List ℕ → ℕ → ℕ → ℕ → List Float → Result Su3 Refusal
plaquette_call d n mu nu l =
    let u = plaquette_of d (link_of d l) n mu nu in
    answered (finally (first_refusal (plane_rows d (length l) n mu nu)) (bad_matrix u, Refusal.NotFinite)) u

unfoldable pub staple_call : Plan → ℕ → ℕ → List Float → Result Su3 Refusal
staple_call p n mu l =
    let u = staple_of p.extents (link_of p.extents l) n mu in
    answered (finally (first_refusal (link_rows p.extents p.coupling (length l) n mu)) (bad_matrix u, Refusal.NotFinite)) u

unfoldable pub average_call : List ℕ → List Float → Result Float Refusal
average_call d l =
    let x = average_of d (link_of d l) in
    answered (finally (first_refusal (field_rows d (length l))) (bad_number x, Refusal.NotFinite)) x

unfoldable pub action_call : Plan → List Float → Result Float Refusal
action_call p l =
    let x = action_of p.extents (link_of p.extents l) p.coupling in
    answered (finally (first_refusal (plan_rows p.extents p.coupling (length l))) (bad_number x, Refusal.NotFinite)) x

unfoldable pub polyakov_call : List ℕ → List Float → Result C64 Refusal
polyakov_call d l =
    let z = polyakov_of d (link_of d l) in
    answered (finally (first_refusal (field_rows d (length l))) (bad_pair z, Refusal.NotFinite)) z
