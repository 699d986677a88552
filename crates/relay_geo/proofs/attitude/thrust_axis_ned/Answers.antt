use Rattle.relay_geo.specs.Attitude.{thrust_axis_ned}
use Rattle.relay_geo.proofs.attitude.thrust_axis_ned.Goals as goal

pub returns : goal.returns
unfolding thrust_axis_ned
returns c = simp (c.normalize.ensures, c.thrust_force.ensures)
