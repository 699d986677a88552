use Rattle.laws.proofs.Prelude.{refl}
use Rattle.relay_geo.specs.Controller.{opposed}
use Rattle.relay_geo.proofs.controller.opposed.Goals as goal

pub returns : goal.returns
unfolding opposed
returns c = refl
