use Rattle.joint_tick.specs.Tick.{rate_sq}
use Rattle.joint_tick.proofs.stages.rate_sq.Goals as goal

pub returns : goal.returns
unfolding rate_sq
returns c = simp c.dot.ensures
