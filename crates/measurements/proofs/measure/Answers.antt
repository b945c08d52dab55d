use Rattle.measurements.specs.Measurements.{measurements_of}
use Rattle.measurements.proofs.Measured.{unwrapped, cold_accepted, average_accepted, action_accepted, loop_accepted, baryon_accepted, frames_are}
use Rattle.measurements.proofs.measure.Goals as goal

pub unwrap-plan-requires : goal.unwrap-plan-requires
unwrap-plan-requires c = rw (cold_accepted c.args.extents.fits c.requires.few c.requires.fits c.cold.ensures)

pub returns : goal.returns
unfolding measurements_of
returns c =
    let shape = c.args.extents.fits in
    let few = c.requires.few in
    let room = c.requires.fits in
    let cold = c.cold.ensures in
    let plan = c.unwrap-plan.ensures in
    rw (
      c.sites.ensures,
      unwrapped c.unwrap-plaquette.ensures (average_accepted shape few room cold plan c.average_plaquette.ensures),
      unwrapped c.unwrap-action.ensures (action_accepted shape few room cold plan c.action.ensures),
      unwrapped c.unwrap-polyakov.ensures (loop_accepted shape few room cold plan c.polyakov_loop.ensures),
      unwrapped c.unwrap-baryon.ensures (baryon_accepted shape few room cold plan c.baryon_loop.ensures),
      frames_are shape few room cold plan c.half_sweep-frames.ensures,
    )
