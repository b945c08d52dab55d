-- The numbers of the scope's table of refusals.
use Rattle.std.specs.Prelude.{ℕ, Option, None, Some}
use Rattle.rows.specs.declared.Refusal.{Refusal}

unfoldable pub row_of : Refusal → ℕ
row_of Refusal.Extents = 1
row_of Refusal.Coupling = 2
row_of Refusal.Length = 3
row_of Refusal.Site = 4
row_of Refusal.Direction = 5
row_of Refusal.Parity = 6
row_of Refusal.Pass = 7
row_of Refusal.Job = 8
row_of Refusal.Stuck = 9
row_of Refusal.NotFinite = 10
row_of Refusal.Reach = 11
row_of Refusal.Room = 12
row_of Refusal.Densities = 13
row_of Refusal.NoMean = 14
row_of Refusal.Input = 15

-- 0 where there is no refusal
unfoldable pub number_in : Option Refusal → ℕ
number_in None = 0
number_in (Some refusal) = row_of refusal
