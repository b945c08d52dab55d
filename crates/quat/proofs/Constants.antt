use Rattle.std.proofs.Common.{refl}
use Rattle.quat.specs.Subgroup.{subgroup_of}
use Rattle.quat.specs.Constants.{SubgroupsAre}

pub subgroups_are : SubgroupsAre
unfolding subgroup_of
subgroups_are = refl
