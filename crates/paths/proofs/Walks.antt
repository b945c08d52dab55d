-- Where walks end.
use Rattle.std.proofs.Common.{ℕ, zero, suc, ◌<◌, Bool, true, false, cond, List, [], ◌∷◌, fold, All, ◌≡◌, refl, arith}
use Rattle.std.proofs.lemmas.List.Elements.{All-head, All-tail}
use Rattle.mat.specs.Matrix.{identity_of}
use Rattle.mat.specs.Product.{mul_of, mul_dag_of}
use Rattle.geometry.specs.Radix.{volume}
use Rattle.geometry.specs.Shape.{Shape}
use Rattle.geometry.specs.Steps.{spot_of, fwd_of, bwd_of}
use Rattle.geometry.proofs.Neighbour.{fwd_below, bwd_below}
use Rattle.links.specs.Field.{Field}
use Rattle.gauge.specs.Polyakov.{later_of}
use Rattle.stairs.specs.declared.Step.{Step}
use Rattle.paths.specs.Path.{Transporter, step_of, path_of}

module _ (d : List ℕ) (shape : Shape d) (U : Field) where
  pub step_below : (w : Transporter) (s : Step) → s.axis < 4 → (step_of d U w s).site < volume d
  unfolding step_of
  step_below w s axis = go s.forward
    where
      go : (b : Bool)
          → (cond {A = Transporter} b
          (record { u = mul_of w.u (U s.axis w.site); site = fwd_of d w.site s.axis })
          (record { u = mul_dag_of w.u (U s.axis (bwd_of d w.site s.axis)); site = bwd_of d w.site s.axis })).site
          < volume d
      go true = fwd_below d shape w.site s.axis axis
      go false = bwd_below d shape w.site s.axis axis

  pub steps_below : (w : Transporter) (steps : List Step) → w.site < volume d → All (λ s. s.axis < 4) steps → (fold (step_of d U) w steps).site < volume d
  steps_below w [] h axes = h
  steps_below w (s ∷ steps) h axes = steps_below (step_of d U w s) steps (step_below w s (All-head (λ s. s.axis < 4) s steps axes)) (All-tail (λ s. s.axis < 4) s steps axes)

  pub path_below : (n : ℕ) (steps : List Step) → n < volume d → All (λ s. s.axis < 4) steps → (path_of d U n steps).site < volume d
  unfolding path_of
  path_below n steps h axes = steps_below (record { u = identity_of; site = n }) steps h axes

pub later_below : (d : List ℕ) → Shape d → (n t : ℕ) → n < volume d → later_of d n t < volume d
unfolding later_of
later_below d shape n zero h = h
later_below d shape n (suc t) h = fwd_below d shape (later_of d n t) 0 (omega arith)

pub spot_site : (d : List ℕ) (n : ℕ) → (spot_of d n).site ≡ n
unfolding spot_of
spot_site d n = refl
