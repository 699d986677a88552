use Rattle.joint_tick.specs.Tick.{guide_pick_follow}
use Rattle.joint_tick.proofs.Once.{pick_in_halves}
use Rattle.joint_tick.proofs.stages.guide_pick_follow.Goals as goal

pub returns : goal.returns
unfolding guide_pick_follow
returns c = simp (c.pick.ensures, c.guide-guided.ensures, c.observe-observed.ensures, pick_in_halves)
