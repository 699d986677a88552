use Rattle.joint_tick.specs.SetUp.{segment_of}
use Rattle.joint_tick.proofs.setup.segment_of.Goals as goal

pub returns : goal.returns
unfolding segment_of
returns c = simp c.new.ensures
