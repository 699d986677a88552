use Rattle.relay_geo.specs.Controller.{moment}
use Rattle.relay_geo.proofs.controller.GeoAtt.moment.Goals as goal

pub returns : goal.returns
unfolding moment
returns c = simp (c.opposed.ensures, c.gyroscopic.ensures, c.attitude_error-e_r.ensures)
