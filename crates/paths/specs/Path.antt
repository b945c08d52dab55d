-- Ordered products of links along steps, and the sites where they end.
use Rattle.std.specs.Prelude.{ℕ, cond, List, fold}
use Rattle.mat.specs.declared.Su3.{Su3}
use Rattle.mat.specs.Matrix.{identity_of}
use Rattle.mat.specs.Product.{mul_of, mul_dag_of}
use Rattle.geometry.specs.Steps.{fwd_of, bwd_of}
use Rattle.links.specs.Field.{Field}
use Rattle.gauge.specs.Polyakov.{later_of, time_line_of}
use Rattle.gauge.specs.Field.{link_of}
use Rattle.stairs.specs.declared.Step.{Step}
use Rattle.paths.specs.declared.Walker.{Walker}

-- a product of links and the site where it ends
pub record Transporter : Type 0 where
  pub u : Su3
  pub site : ℕ

-- A forward step multiplies by the link and moves; a backward one moves and multiplies by the dagger of the link there.
unfoldable pub step_of : List ℕ → Field → Transporter → Step → Transporter
step_of d U w s =
    cond s.forward
    (record { u = mul_of w.u (U s.axis w.site); site = fwd_of d w.site s.axis })
    (record { u = mul_dag_of w.u (U s.axis (bwd_of d w.site s.axis)); site = bwd_of d w.site s.axis })

-- one step after the other from a site, beginning with the identity
unfoldable pub path_of : List ℕ → Field → ℕ → List Step → Transporter
path_of d U n steps = fold (step_of d U) (record { u = identity_of; site = n }) steps

-- t links along time
unfoldable pub line_of : List ℕ → Field → ℕ → ℕ → Transporter
line_of d U n t = record { u = time_line_of d U n t; site = later_of d n t }

-- ## from where a walker stands

-- the field under it
abbrev pub field_under : Walker → Field
field_under w = link_of w.lattice.extents.d w.lattice.links.now

-- a product so far, and the site
abbrev pub transporter : Su3 → Walker → Transporter
transporter u w = record { u = u; site = w.here.at.site }

abbrev pub path_from : Walker → List Step → Transporter
path_from w steps = path_of w.lattice.extents.d (field_under w) w.here.at.site steps

abbrev pub line_from : Walker → ℕ → Transporter
line_from w t = line_of w.lattice.extents.d (field_under w) w.here.at.site t
