use Rattle.relay_geo.specs.Shield.{filter}
use Rattle.relay_geo.proofs.shield.SimplexShield.filter.Goals as goal

pub returns : goal.returns
unfolding filter
returns c = simp (c.step.ensures, c.margin.ensures)
