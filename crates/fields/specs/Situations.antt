-- The situations that these calls add to those of `field_checks`, and the rows of those calls whose rows it does not have, in the order in which they are tried;
-- a number that isn't finite comes after them. The rows of `clover_leaves` and `field_strength_at` are its `plane_rows` and `field_site_rows`.
use Rattle.std.specs.Prelude.{ℕ, Bool, false, not, List, [], ◌∷◌, ltb, eqb}
use Rattle.rows.specs.declared.Refusal.{Refusal}
use Rattle.geometry.specs.Radix.{volume}
use Rattle.strength.specs.declared.Density.{Density}
use Rattle.field_checks.specs.Refusals.{RowList}
use Rattle.field_checks.specs.Situations.{bad_extents, bad_links, bad_site, bad_direction}

-- ## Situations

-- 3: a density list of wrong length
unfoldable pub bad_density_list : List ℕ → ℕ → Bool
bad_density_list d len = not (eqb len (volume d))

-- 5: an electric axis above 2
unfoldable pub bad_axis : Density → Bool
bad_axis Density.Action = false
bad_axis Density.Charge = false
bad_axis (Density.Electric axis) = ltb 2 axis

-- ## Rows: d are extents, len the number of link numbers

-- stout_link
abbrev pub stout_rows : List ℕ → ℕ → ℕ → ℕ → RowList
stout_rows d len n mu = (bad_extents d, Refusal.Extents) ∷ (bad_links d len, Refusal.Length) ∷ (bad_site d n, Refusal.Site) ∷ (bad_direction mu, Refusal.Direction) ∷ []

-- stout_step; second is the length of the list to be filled
abbrev pub smear_rows : List ℕ → ℕ → ℕ → RowList
smear_rows d len second = (bad_extents d, Refusal.Extents) ∷ (bad_links d len, Refusal.Length) ∷ (bad_links d second, Refusal.Length) ∷ []

-- action_density, topological_charge_density, electric_sq
abbrev pub density_rows : List ℕ → ℕ → ℕ → Density → RowList
density_rows d len second kind = (bad_extents d, Refusal.Extents) ∷ (bad_links d len, Refusal.Length) ∷ (bad_density_list d second, Refusal.Length) ∷ (bad_axis kind, Refusal.Direction) ∷ []
