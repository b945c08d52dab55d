-- The plan of a call that is handed extents and a coupling.
use Rattle.std.specs.Prelude.{ℕ, List, Float}
use Rattle.lattice.specs.declared.Plan.{Plan}

abbrev pub plan_in : List ℕ → Float → Plan
plan_in d c = record { extents = d; coupling = c; seed = 0; pass = 0 }
