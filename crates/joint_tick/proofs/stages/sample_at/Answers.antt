use Rattle.relay_traj.specs.Segment.{eval3}
use Rattle.joint_tick.proofs.stages.sample_at.Goals as goal

pub returns : goal.returns
unfolding eval3
returns c = simp (c.eval-z.ensures, c.eval-y.ensures, c.eval-x.ensures, c.sample_time-t.ensures)
