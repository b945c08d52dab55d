-- The situations that these calls add to those of `field_checks` and `stairs`, and each call's rows in the order in which they are tried; a number that isn't finite comes after them. o are quarks' offsets, t a time length.
use Rattle.std.specs.Prelude.{ℕ, ◌*◌, Bool, not, ◌||◌, List, [], ◌∷◌, ℤ, ◌==◌, nat_eq, nat_lt, slice_index}
use Rattle.std.specs.Float.Ieee.{eq}
use Rattle.std.specs.Cmp.Lexicographic.{pointwise}
use Rattle.rows.specs.declared.Refusal.{Refusal}
use Rattle.complex.specs.Rounded.{fzero}
use Rattle.geometry.specs.Radix.{volume}
use Rattle.field_checks.specs.Refusals.{RowList}
use Rattle.field_checks.specs.Situations.{bad_extents, bad_links}
use Rattle.stairs.specs.Offsets.{bad_quarks, bad_time}
use Rattle.flux.specs.declared.FluxAccumulator.{FluxAccumulator}
use Rattle.flux.specs.Grid.{bad_grid}
use Rattle.flux.specs.Means.{means_of}

-- ## Situations: n are a grid's extents x, y, z

-- 3: a list of wrong length: of so many densities at every place of extents e, which are a field's or their grid's; of the scratch; of one density's correlation
unfoldable pub bad_per_density : List ℕ → ℕ → ℕ → Bool
bad_per_density e count len = not (len == count * volume e)

unfoldable pub bad_scratch : List ℕ → ℕ → ℕ → Bool
bad_scratch n count len = not (len == 2 * (count * volume n))

unfoldable pub bad_correlation : List ℕ → ℕ → Bool
bad_correlation n len = not (len == volume n)

-- 13: a count of densities that is 0 or above 4, or unlike the one held
unfoldable pub bad_count : ℕ → Bool
bad_count count = count == 0 || nat_lt 4 count

unfoldable pub other_count : ℕ → ℕ → Bool
other_count count held = not (count == held)

-- 13: a density number not below their count
unfoldable pub bad_density : ℕ → ℕ → Bool
bad_density k count = not (nat_lt k count)

-- 13: a grid whose extents are not the field's x, y, z
unfoldable pub other_grid : List ℕ → List ℕ → Bool
other_grid n d = not (pointwise nat_eq n (slice_index d 1 ∷ slice_index d 2 ∷ slice_index d 3 ∷ []))

-- 13: samples already 2^64 − 1
unfoldable pub full_samples : ℕ → Bool
full_samples samples = samples == 0xffff_ffff_ffff_ffff

-- 14: no samples
unfoldable pub no_samples : ℕ → Bool
no_samples samples = samples == 0

-- 14: mean loop times mean density equal to 0, of either sign
unfoldable pub no_means : FluxAccumulator → ℕ → Bool
no_means acc k = eq (means_of acc k) fzero

-- ## Rows

-- what all calls have in common
abbrev pub parameters_rows : List (List ℤ) → ℕ → ℕ → RowList
parameters_rows o t count = (bad_quarks o, Refusal.Reach) ∷ (bad_time t, Refusal.Reach) ∷ (bad_count count, Refusal.Densities) ∷ []

-- new; len is the length of the grid's list
abbrev pub new_rows : List ℕ → List (List ℤ) → ℕ → ℕ → ℕ → RowList
new_rows n o t count len =
    (bad_grid n, Refusal.Extents)
    ∷ (bad_per_density n count len, Refusal.Length)
    ∷ (bad_quarks o, Refusal.Reach)
    ∷ (bad_time t, Refusal.Reach)
    ∷ (bad_count count, Refusal.Densities)
    ∷ []

-- mean_loop
abbrev pub mean_rows : FluxAccumulator → RowList
mean_rows acc =
    (bad_grid acc.n, Refusal.Extents)
    ∷ (bad_quarks acc.offsets, Refusal.Reach)
    ∷ (bad_time acc.t_len, Refusal.Reach)
    ∷ (bad_count acc.count, Refusal.Densities)
    ∷ (no_samples acc.samples, Refusal.NoMean)
    ∷ []

-- correlation, by the lengths of the grid's list and of the list to be filled
abbrev pub correlation_rows : FluxAccumulator → ℕ → ℕ → ℕ → RowList
correlation_rows acc k grid out =
    (bad_grid acc.n, Refusal.Extents)
    ∷ (bad_per_density acc.n acc.count grid, Refusal.Length)
    ∷ (bad_correlation acc.n out, Refusal.Length)
    ∷ (bad_quarks acc.offsets, Refusal.Reach)
    ∷ (bad_time acc.t_len, Refusal.Reach)
    ∷ (bad_count acc.count, Refusal.Densities)
    ∷ (bad_density k acc.count, Refusal.Densities)
    ∷ (no_samples acc.samples, Refusal.NoMean)
    ∷ (no_means acc k, Refusal.NoMean)
    ∷ []

-- what an accumulator takes of a field; d are its extents
abbrev pub own_rows : FluxAccumulator → List ℕ → ℕ → RowList
own_rows acc d count = (other_count count acc.count, Refusal.Densities) ∷ (other_grid acc.n d, Refusal.Densities) ∷ (full_samples acc.samples, Refusal.Densities) ∷ []

-- add, by the lengths of the lists of links, densities, grid and scratch
abbrev pub add_rows : FluxAccumulator → List ℕ → ℕ → ℕ → ℕ → ℕ → ℕ → RowList
add_rows acc d count links densities grid scratch =
    (bad_extents d, Refusal.Extents)
    ∷ (bad_grid acc.n, Refusal.Extents)
    ∷ (bad_links d links, Refusal.Length)
    ∷ (bad_per_density d count densities, Refusal.Length)
    ∷ (bad_per_density acc.n count grid, Refusal.Length)
    ∷ (bad_scratch acc.n count scratch, Refusal.Length)
    ∷ (bad_quarks acc.offsets, Refusal.Reach)
    ∷ (bad_time acc.t_len, Refusal.Reach)
    ∷ (bad_count count, Refusal.Densities)
    ∷ (other_count count acc.count, Refusal.Densities)
    ∷ (other_grid acc.n d, Refusal.Densities)
    ∷ (full_samples acc.samples, Refusal.Densities)
    ∷ []
