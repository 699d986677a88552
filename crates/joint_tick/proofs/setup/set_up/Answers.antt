use Rattle.joint_tick.specs.SetUp.{set_up}
use Rattle.joint_tick.proofs.setup.set_up.Goals as goal

pub returns : goal.returns
unfolding set_up
returns c = simp (c.new-3.ensures, c.new-2.ensures, c.new.ensures, c.segment_of.ensures, c.new-shield.ensures)
