use Rattle.joint_tick.specs.Inner.{follow_on}
use Rattle.joint_tick.proofs.stages.follow.Goals as goal

pub returns : goal.returns
unfolding follow_on
returns c = simp (c.act_third-yaw.ensures, c.act-pitch.ensures, c.act-roll.ensures)
