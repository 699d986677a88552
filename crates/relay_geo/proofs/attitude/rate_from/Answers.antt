use Rattle.relay_geo.specs.Attitude.{body_rate}
use Rattle.relay_geo.proofs.attitude.rate_from.Goals as goal

pub returns : goal.returns
unfolding body_rate
returns c = simp (c.in_ok-r_d.was, c.sanitise3.ensures, c.transposed_times-w_body.ensures, c.cross-bxj.ensures)
