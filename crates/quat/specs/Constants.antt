-- What the table of subgroups holds.
use Rattle.std.specs.Prelude.{[], ◌∷◌, ◌≡◌}
use Rattle.quat.specs.declared.subgroups.TheConstants.{SUBGROUPS}
use Rattle.quat.specs.Subgroup.{subgroup_of}

abbrev pub SubgroupsAre : Type 0
SubgroupsAre = SUBGROUPS ≡ subgroup_of 0 ∷ subgroup_of 1 ∷ subgroup_of 2 ∷ []
