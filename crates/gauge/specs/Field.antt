-- The field that a list holds, by its extents.
use Rattle.std.specs.Prelude.{ℕ, ◌*◌, ◌/◌, ◌%◌, ◌<◌, cond, List, map, ◌≡◌, eqb, Float, length}
use Rattle.mat.specs.declared.Su3.{Su3}
use Rattle.mat.specs.Matrix.{ent}
use Rattle.geometry.specs.Range.{range}
use Rattle.geometry.specs.Radix.{volume}
use Rattle.geometry.specs.Shape.{Shape}
use Rattle.links.specs.Field.{Field, field_of}

-- U_μ(n)
abbrev pub link_of : List ℕ → List Float → Field
link_of d l = field_of (volume d) l

-- the i-th of a matrix's eighteen numbers
unfoldable pub part_of : Su3 → ℕ → Float
part_of u i = cond (eqb (i % 2) 0) (ent u (i / 2)).re (ent u (i / 2)).im

-- the list that holds U: eighteen numbers for each link, by direction, then site
unfoldable pub list_of : List ℕ → Field → List Float
list_of d U = map (λ k. part_of (U (k / 18 / volume d) (k / 18 % volume d)) (k % 18)) (range (72 * volume d))

-- a list is that of its field, and the field of U's list is U
pub record ListIsField : Type 0 where
  pub list : (d : List ℕ) (l : List Float) → length l ≡ 72 * volume d → l ≡ list_of d (link_of d l)
  pub field : (d : List ℕ) (U : Field) → ((mu n : ℕ) → length (U mu n).m ≡ 9) → (mu n : ℕ) → mu < 4 → n < volume d → link_of d (list_of d U) mu n ≡ U mu n

-- a list that holds a field of these extents
pub record Holds (d : List ℕ) (l : List Float) : Type 0 where
  pub shape : Shape d
  pub len : length l ≡ 72 * volume d
