use Rattle.joint_tick.specs.Inner.{observe}
use Rattle.joint_tick.proofs.stages.observe.Goals as goal

pub returns : goal.returns
unfolding observe
returns c = simp (c.observe_third.ensures, c.observe-2.ensures, c.observe.ensures)
