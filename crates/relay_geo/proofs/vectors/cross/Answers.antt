use Rattle.laws.proofs.Prelude.{refl}
use Rattle.relay_geo.specs.Vectors.{cross}
use Rattle.relay_geo.proofs.vectors.cross.Goals as goal

pub returns : goal.returns
unfolding cross
returns c = refl
