use Rattle.relay_geo.specs.Controller.{moment_reduced}
use Rattle.relay_geo.proofs.controller.GeoAtt.moment_reduced.Goals as goal

pub returns : goal.returns
unfolding moment_reduced
returns c =
    simp (c.opposed-m.ensures, c.gyroscopic.ensures, c.attitude_error_reduced-e.ensures)
