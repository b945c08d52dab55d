-- The loop of three static quarks: each goes out from the junction, stays for a time, and comes back.
use Rattle.std.specs.Prelude.{ℕ, List, [], map, slice_index_or, Float, ℤ}
use Rattle.std.specs.Float.{binary64}
use Rattle.std.specs.Float.Ieee.{div}
use Rattle.mat.specs.declared.Su3.{Su3}
use Rattle.mat.specs.Product.{mul_of, mul_dag_of}
use Rattle.links.specs.Field.{Field}
use Rattle.gauge.specs.Plaquette.{fsix}
use Rattle.gauge.specs.Polyakov.{later_of, time_line_of}
use Rattle.stairs.specs.declared.Step.{Step}
use Rattle.stairs.specs.Staircase.{staircase_of}
use Rattle.paths.specs.Path.{path_of}
use Rattle.contraction.specs.Epsilon.{epsilon_of}

module _ (d : List ℕ) (U : Field) (t : ℕ) where
  -- P(t₀) L P(t₀ + t)†: along the steps from the site n, t links along time, and back along the steps from the site t later than n
  unfoldable pub quark_line_of : ℕ → List Step → Su3
  quark_line_of n steps =
      let lower = path_of d U n steps in
      let upper = path_of d U (later_of d n t) steps in
      mul_dag_of (mul_of lower.u (time_line_of d U lower.site t)) upper.u

  -- Re ε ε M M M / 6 for three lists of steps
  unfoldable pub loop_of : ℕ → List (List Step) → Float
  loop_of n paths =
      let line : ℕ → Su3 = λ i. quark_line_of n (slice_index_or paths i []) in
      div binary64 (epsilon_of (line 0) (line 1) (line 2)).re fsix

  -- the loop of quarks at three offsets from n, along their staircases
  unfoldable pub baryon_of : List (List ℤ) → ℕ → Float
  baryon_of o n = loop_of n (map staircase_of o)
