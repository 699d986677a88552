use Rattle.relay_geo.proofs.Accepts.{shared_attitude, shared_feedforward}
use Rattle.relay_geo.proofs.attitude.flatness_omega_ff.Goals as goal

pub returns : goal.returns
returns c = simp (c.feedforward_on.ensures, c.attitude_on.ensures, c.thrust_of-t.ensures, shared_attitude, shared_feedforward)
