-- What the functions ask of each other.
use Rattle.std.specs.Prelude.{◌≡◌, ℕ, ◌+◌, ◌*◌, List}
use Rattle.gather.specs.Parts.{ParametersFit}
use Rattle.slices.specs.Slices.{places}
use Rattle.flux.specs.declared.FluxAccumulator.{FluxAccumulator}

-- an addition whose inputs are accepted; d are the field's extents, e the densities'
pub record Addable (acc : FluxAccumulator) (d e : List ℕ) (count grid scratch : ℕ) : Type 0 where
  pub same : e ≡ d
  pub own : ParametersFit acc.t_len count
  pub cells : grid ≡ count * places d
  pub twice : scratch ≡ grid + grid
