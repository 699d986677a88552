use Rattle.joint_tick.specs.Tick.{prepare}
use Rattle.joint_tick.proofs.stages.prepare.Goals as goal

pub returns : goal.returns
unfolding prepare
returns c = let a = c.before.before.before in simp (a.advance-advanced.ensures, a.filter-filtered.ensures, a.set_fractions-rate.ensures)
