use Rattle.laws.proofs.Prelude.{refl}
use Rattle.relay_geo.specs.Vectors.{prod3}
use Rattle.relay_geo.specs.Controller.{psi}
use Rattle.relay_geo.proofs.controller.GeoAtt.psi.Goals as goal

pub returns : goal.returns
unfolding psi prod3
returns c = refl
