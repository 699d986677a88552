use Rattle.relay_geo.specs.Shield.{step}
use Rattle.relay_geo.proofs.shield.SimplexShield.step.Goals as goal

pub returns : goal.returns
unfolding step
returns c = simp (c.pick-command.ensures, c.latch-engaged.ensures)
