use Rattle.relay_geo.specs.Vectors.{normalize}
use Rattle.relay_geo.proofs.vectors.normalize.Goals as goal

pub returns : goal.returns
unfolding normalize
returns c = simp (c.direction_of.ensures, c.norm.ensures)
