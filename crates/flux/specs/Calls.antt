-- What each call answers, and what each lent list and accumulator holds afterwards.
use Rattle.std.specs.Prelude.{◌≡◌, ℕ, List, length, replicate, ℤ, Float, Option, Result}
use Rattle.rows.specs.declared.Refusal.{Refusal}
use Rattle.rows.specs.Refusals.{first_refusal, finally, answered, unless}
use Rattle.rows.specs.Finite.{bad_numbers}
use Rattle.complex.specs.Rounded.{fzero}
use Rattle.gauge.specs.Field.{link_of}
use Rattle.field_checks.specs.Situations.{bad_number}
use Rattle.contraction.specs.Baryon.{baryon_of}
use Rattle.sums.specs.Ending.{bad_sums, zeros_like}
use Rattle.flux.specs.declared.FluxAccumulator.{FluxAccumulator}
use Rattle.flux.specs.Situations.{new_rows, mean_rows, correlation_rows, add_rows}
use Rattle.flux.specs.Means.{mean_loop, correlation_list}
use Rattle.flux.specs.Sums.{Addition, added_grid, added_of}

-- ## new

unfoldable pub empty_acc : List ℕ → List (List ℤ) → ℕ → ℕ → FluxAccumulator
empty_acc n o t count = record { n = n; offsets = o; t_len = t; count = count; samples = 0; w = fzero; s = replicate 4 fzero }

abbrev pub new_refusal : List ℕ → List (List ℤ) → ℕ → ℕ → List Float → Option Refusal
new_refusal n o t count grid = first_refusal (new_rows n o t count (length grid))

pub record NewCall (n : List ℕ) (o : List (List ℤ)) (t count : ℕ) (grid : List Float) (r : Result FluxAccumulator Refusal) (grid_after : List Float) : Type 0 where
  pub answer : r ≡ answered (new_refusal n o t count grid) (empty_acc n o t count)
  pub list : grid_after ≡ unless (new_refusal n o t count grid) (zeros_like grid) grid

-- ## add

-- by the rows before the sums are worked out
abbrev pub inputs_refusal : Addition → Option Refusal
inputs_refusal x = first_refusal (add_rows x.acc x.extents x.count (length x.links) (length x.densities) (length x.grid) (length x.scratch))

-- for any loop value W at each site
module _ (W : ℕ → Float) (x : Addition) where
  unfoldable pub add_refusal : Option Refusal
  add_refusal = finally (inputs_refusal x) (bad_sums (added_grid W x) (added_of W x).w (added_of W x).s, Refusal.NotFinite)

  -- the scratch is +0 where the sums were worked out, whether row 10 refuses them or not
  pub record Added (r : Result (Unit {0}) Refusal) (after : FluxAccumulator) (grid_after scratch_after : List Float) : Type 0 where
    pub answer : r ≡ answered add_refusal tt
    pub sums : after ≡ unless add_refusal (added_of W x) x.acc
    pub list : grid_after ≡ unless add_refusal (added_grid W x) x.grid
    pub cleared : scratch_after ≡ unless (inputs_refusal x) (zeros_like x.scratch) x.scratch

-- the loop of three quarks at each site, as the accumulator has their offsets and the time length
unfoldable pub loop_at : Addition → ℕ → Float
loop_at x = baryon_of x.extents (link_of x.extents x.links) x.acc.t_len x.acc.offsets

abbrev pub AddCall : Addition → Result (Unit {0}) Refusal → FluxAccumulator → List Float → List Float → Type 0
AddCall x = Added (loop_at x) x

-- ## mean_loop

unfoldable pub mean_call : FluxAccumulator → Result Float Refusal
mean_call acc = answered (finally (first_refusal (mean_rows acc)) (bad_number (mean_loop acc), Refusal.NotFinite)) (mean_loop acc)

-- ## correlation

unfoldable pub correlation_refusal : FluxAccumulator → ℕ → List Float → List Float → Option Refusal
correlation_refusal acc k grid out = finally (first_refusal (correlation_rows acc k (length grid) (length out))) (bad_numbers (correlation_list acc k grid), Refusal.NotFinite)

pub record CorrelationCall (acc : FluxAccumulator) (k : ℕ) (grid out : List Float) (r : Result (Unit {0}) Refusal) (out_after : List Float) : Type 0 where
  pub answer : r ≡ answered (correlation_refusal acc k grid out) tt
  pub list : out_after ≡ unless (correlation_refusal acc k grid out) (correlation_list acc k grid) out
