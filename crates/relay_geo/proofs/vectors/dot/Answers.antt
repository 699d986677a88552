use Rattle.laws.proofs.Prelude.{refl}
use Rattle.relay_geo.specs.Vectors.{dot}
use Rattle.relay_geo.proofs.vectors.dot.Goals as goal

pub returns : goal.returns
unfolding dot
returns c = refl
