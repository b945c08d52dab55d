-- Offsets in reach, as lists.
use Rattle.std.specs.Prelude.{List, map, ℤ}
use Rattle.stairs.specs.declared.offsets.Offset.{Offset}

abbrev pub offsets_of : List Offset → List (List ℤ)
offsets_of quarks = map (λ q. q.d) quarks
