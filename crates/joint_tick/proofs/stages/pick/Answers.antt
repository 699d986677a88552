use Rattle.joint_tick.specs.Inner.{pick_on}
use Rattle.joint_tick.proofs.Once.{acts_on_the_choice}
use Rattle.joint_tick.proofs.stages.pick.Goals as goal

pub returns : goal.returns
unfolding pick_on
returns c = let f = c.before.before in let s = f.before.before.before in let a = s.args in simp (f.follow-followed.ensures, f.chosen.ensures, s.step-picked.ensures) (rw (acts_on_the_choice a.fixed a.prepared a.observed a.guided))
