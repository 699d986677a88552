use Rattle.laws.proofs.Prelude.{refl}
use Rattle.relay_geo.specs.Vectors.{prod3}
use Rattle.relay_geo.proofs.vectors.prod3.Goals as goal

pub returns : goal.returns
unfolding prod3
returns c = refl
