use Rattle.joint_tick.specs.Tick.{guide}
use Rattle.joint_tick.proofs.stages.guide.Goals as goal

pub returns-in-Whole : goal.returns-in-Whole
unfolding guide
returns-in-Whole c = simp (c.guide_whole.ensures, c.in-Whole.is)

pub returns-in-LostRotor : goal.returns-in-LostRotor
unfolding guide
returns-in-LostRotor c = simp (c.guide_lost_rotor.ensures, c.in-LostRotor.is)
