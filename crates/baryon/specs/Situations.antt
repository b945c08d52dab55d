-- The situations that these calls add to those of `field_checks`, and their rows in the order in which they are tried; a number that isn't finite comes after them.
use Rattle.std.specs.Prelude.{ℕ, Bool, List, [], ◌∷◌, ltb, length, ℤ}
use Rattle.std.specs.List.{list_any}
use Rattle.rows.specs.declared.Refusal.{Refusal}
use Rattle.field_checks.specs.Refusals.{RowList}
use Rattle.field_checks.specs.Situations.{bad_extents, bad_links, bad_site}
use Rattle.stairs.specs.declared.Step.{Step}
use Rattle.stairs.specs.Offsets.{bad_offsets, bad_quarks, bad_time}
use Rattle.stairs.specs.Staircase.{steps_to}

-- 11: more than 96 steps
unfoldable pub many_steps : ℕ → Bool
many_steps n = ltb 96 n

-- 11: a step axis above 3
unfoldable pub bad_axes : List Step → Bool
bad_axes steps = list_any (λ s. ltb 3 s.axis) steps

-- 12: room for fewer steps than are needed
unfoldable pub bad_step_room : List ℤ → ℕ → Bool
bad_step_room d room = ltb room (steps_to d)

-- ## Rows: d are extents, len the number of link numbers, n a site

-- staircase; o is the offset
abbrev pub stair_rows : List ℤ → ℕ → RowList
stair_rows o room = (bad_offsets o, Refusal.Reach) ∷ (bad_step_room o room, Refusal.Room) ∷ []

-- steps that are handed in
abbrev pub steps_rows : List Step → RowList
steps_rows steps = (many_steps (length steps), Refusal.Reach) ∷ (bad_axes steps, Refusal.Reach) ∷ []

-- path
abbrev pub path_rows : List ℕ → ℕ → ℕ → List Step → RowList
path_rows d len n steps =
    (bad_extents d, Refusal.Extents)
    ∷ (bad_links d len, Refusal.Length)
    ∷ (bad_site d n, Refusal.Site)
    ∷ (many_steps (length steps), Refusal.Reach)
    ∷ (bad_axes steps, Refusal.Reach)
    ∷ []

-- time_line
abbrev pub line_rows : List ℕ → ℕ → ℕ → ℕ → RowList
line_rows d len n t =
    (bad_extents d, Refusal.Extents)
    ∷ (bad_links d len, Refusal.Length)
    ∷ (bad_site d n, Refusal.Site)
    ∷ (bad_time t, Refusal.Reach)
    ∷ []

-- baryon_loop; o are the three offsets
abbrev pub loop_rows : List ℕ → ℕ → ℕ → List (List ℤ) → ℕ → RowList
loop_rows d len n o t =
    (bad_extents d, Refusal.Extents)
    ∷ (bad_links d len, Refusal.Length)
    ∷ (bad_site d n, Refusal.Site)
    ∷ (bad_quarks o, Refusal.Reach)
    ∷ (bad_time t, Refusal.Reach)
    ∷ []
