use Rattle.laws.proofs.Prelude.{refl}
use Rattle.relay_geo.specs.Vectors.{dot, transposed_times}
use Rattle.relay_geo.proofs.vectors.transposed_times.Goals as goal

pub returns : goal.returns
unfolding dot transposed_times
returns c = refl
