-- Row 10 for ratios.
use Rattle.std.proofs.Common.{List, map, ◌≡◌, ◌∙◌}
use Rattle.std.specs.List.{list_all}
use Rattle.std.proofs.lemmas.List.Folds.{list_all-map}
use lib.Ieee.{Float, nan}
use lib.Ieee.Scale.{finite}
use Rattle.folds.proofs.Lists.{all_listed}
use Rattle.rows.specs.Finite.{finite_numbers}

pub finite_mapped : (f : Float → Float) (l : List Float) → finite_numbers (map f l) ≡ list_all (λ x. finite (f x)) l
unfolding finite_numbers
finite_mapped f l = all_listed finite (map f l) nan ∙ list_all-map finite f l
