use Rattle.laws.proofs.Prelude.{refl}
use Rattle.relay_geo.specs.Vectors.{prod3}
use Rattle.relay_geo.specs.Controller.{attitude_error}
use Rattle.relay_geo.proofs.controller.GeoAtt.attitude_error.Goals as goal

pub returns : goal.returns
unfolding attitude_error prod3
returns c = refl
