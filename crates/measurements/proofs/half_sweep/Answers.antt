use Rattle.measurements.proofs.Visits.{open_accepted, first, second, third, all_frames}
use Rattle.measurements.proofs.half_sweep.Goals as goal

pub unwrap-job-requires : goal.unwrap-job-requires
unwrap-job-requires c = rw (open_accepted _ _ c.requires c.open_overrelax.ensures)

pub unwrap-requires : goal.unwrap-requires
unwrap-requires c = rw (first _ _ c.requires c.open_overrelax.ensures c.unwrap-job.ensures c.frame_overrelax.ensures).0

pub unwrap-requires-2 : goal.unwrap-requires-2
unwrap-requires-2 c = rw (second _ _ c.requires c.open_overrelax.ensures c.unwrap-job.ensures c.frame_overrelax.ensures c.frame_overrelax-2.ensures).0

pub unwrap-requires-3 : goal.unwrap-requires-3
unwrap-requires-3 c = rw (third _ _ c.requires c.open_overrelax.ensures c.unwrap-job.ensures c.frame_overrelax.ensures c.frame_overrelax-2.ensures c.frame_overrelax-3.ensures).0

pub returns : goal.returns
returns c = all_frames _ _ c.requires c.open_overrelax.ensures c.unwrap-job.ensures c.frame_overrelax.ensures c.frame_overrelax-2.ensures c.frame_overrelax-3.ensures
