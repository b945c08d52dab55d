-- Each call's rows, in the order in which they are tried; a stuck link and a number that isn't finite come after them. d are extents, c a coupling, len the number of link numbers.
use Rattle.std.specs.Prelude.{ℕ, Bool, List, [], ◌∷◌, Float}
use Rattle.rows.specs.declared.Refusal.{Refusal}
use Rattle.field_checks.specs.Situations.{bad_extents, bad_coupling, bad_links, bad_site, bad_coords, bad_direction, bad_plane, bad_room}

abbrev pub RowList : Type 0
RowList = List (Bool × Refusal)

-- n_sites
abbrev pub extents_rows : List ℕ → RowList
extents_rows d = (bad_extents d, Refusal.Extents) ∷ []

-- coords, parity
abbrev pub site_rows : List ℕ → ℕ → RowList
site_rows d n = (bad_extents d, Refusal.Extents) ∷ (bad_site d n, Refusal.Site) ∷ []

-- index
abbrev pub coords_rows : List ℕ → List ℕ → RowList
coords_rows d at = (bad_extents d, Refusal.Extents) ∷ (bad_coords d at, Refusal.Site) ∷ []

-- fwd, bwd
abbrev pub step_rows : List ℕ → ℕ → ℕ → RowList
step_rows d n mu = (bad_extents d, Refusal.Extents) ∷ (bad_site d n, Refusal.Site) ∷ (bad_direction mu, Refusal.Direction) ∷ []

-- average_plaquette, polyakov_loop
abbrev pub field_rows : List ℕ → ℕ → RowList
field_rows d len = (bad_extents d, Refusal.Extents) ∷ (bad_links d len, Refusal.Length) ∷ []

-- field_strength_at
abbrev pub field_site_rows : List ℕ → ℕ → ℕ → RowList
field_site_rows d len n = (bad_extents d, Refusal.Extents) ∷ (bad_links d len, Refusal.Length) ∷ (bad_site d n, Refusal.Site) ∷ []

-- cold, action
abbrev pub plan_rows : List ℕ → Float → ℕ → RowList
plan_rows d c len = (bad_extents d, Refusal.Extents) ∷ (bad_coupling c, Refusal.Coupling) ∷ (bad_links d len, Refusal.Length) ∷ []

-- plaquette, clover_leaves
abbrev pub plane_rows : List ℕ → ℕ → ℕ → ℕ → ℕ → RowList
plane_rows d len n mu nu = (bad_extents d, Refusal.Extents) ∷ (bad_links d len, Refusal.Length) ∷ (bad_site d n, Refusal.Site) ∷ (bad_plane mu nu, Refusal.Direction) ∷ []

-- staple, overrelax_link
abbrev pub link_rows : List ℕ → Float → ℕ → ℕ → ℕ → RowList
link_rows d c len n mu = (bad_extents d, Refusal.Extents) ∷ (bad_coupling c, Refusal.Coupling) ∷ (bad_links d len, Refusal.Length) ∷ (bad_site d n, Refusal.Site) ∷ (bad_direction mu, Refusal.Direction) ∷ []

-- link_check
abbrev pub link_check_rows : List ℕ → ℕ → ℕ → RowList
link_check_rows d len room = (bad_extents d, Refusal.Extents) ∷ (bad_links d len, Refusal.Length) ∷ (bad_room d room, Refusal.Room) ∷ []
