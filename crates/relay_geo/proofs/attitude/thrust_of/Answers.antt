use Rattle.relay_geo.specs.Inner.{thrust_of}
use Rattle.relay_geo.proofs.attitude.thrust_of.Goals as goal

pub returns : goal.returns
unfolding thrust_of
returns c = simp (c.sqrtf.ensures.is, c.dot.ensures, c.thrust_force-tf.ensures)
