-- A gauge field is a function from direction and site to a matrix. A list of numbers holds one: direction first, then site.
use Rattle.std.specs.Prelude.{ℕ, ◌+◌, ◌*◌, ◌<◌, ◌≤◌, ◌≡◌, List, length, Float}
use Rattle.mat.specs.declared.Su3.{Su3}
use Rattle.links.specs.Store.{matrix_at}

abbrev pub Field : Type 0
Field = ℕ → ℕ → Su3

-- the number of a link among those of v sites
abbrev pub link_number : ℕ → ℕ → ℕ → ℕ
link_number v mu n = mu * v + n

-- where a link's numbers begin
abbrev pub place_of : ℕ → ℕ → ℕ → ℕ
place_of v mu n = 18 * link_number v mu n

-- the field of v sites that a list holds
abbrev pub field_of : ℕ → List Float → Field
field_of v l mu n = matrix_at l (place_of v mu n)

-- a list with the length of a field of v sites
pub record Sized (l : List Float) (v : ℕ) : Type 0 where
  pub len : length l ≡ 72 * v
  pub small : v ≤ 65536

-- and a link of it
pub record Stored (l : List Float) (v mu n : ℕ) : Type 0 where
  pub sized : Sized l v
  pub axis : mu < 4
  pub below : n < v
