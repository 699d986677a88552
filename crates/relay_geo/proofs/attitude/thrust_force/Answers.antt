use Rattle.laws.proofs.Prelude.{refl}
use Rattle.relay_geo.specs.Attitude.{thrust_force}
use Rattle.relay_geo.proofs.attitude.thrust_force.Goals as goal

pub returns : goal.returns
unfolding thrust_force
returns c = refl
