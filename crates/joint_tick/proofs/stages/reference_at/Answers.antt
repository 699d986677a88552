use Rattle.joint_tick.specs.Tick.{reference_at}
use Rattle.joint_tick.proofs.stages.reference_at.Goals as goal

pub returns : goal.returns
unfolding reference_at
returns c = let e = c.before.before in simp (e.eval-s.ensures, e.sample_time.ensures)
