use Rattle.laws.proofs.Prelude.{refl}
use Rattle.relay_geo.specs.Attitude.{quat_to_rotmat}
use Rattle.relay_geo.proofs.attitude.quat_to_rotmat.Goals as goal

pub returns : goal.returns
unfolding quat_to_rotmat
returns c = refl
