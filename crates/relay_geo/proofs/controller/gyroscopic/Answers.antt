use Rattle.relay_geo.specs.Controller.{gyroscopic}
use Rattle.relay_geo.proofs.controller.gyroscopic.Goals as goal

pub returns : goal.returns
unfolding gyroscopic
returns c = c.cross.ensures
