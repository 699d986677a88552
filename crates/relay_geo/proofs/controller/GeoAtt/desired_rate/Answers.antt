use Rattle.relay_geo.specs.Controller.{desired_rate}
use Rattle.relay_geo.proofs.controller.GeoAtt.desired_rate.Goals as goal

pub returns : goal.returns
unfolding desired_rate
returns c =
    let s = c.before.before in
    simp (c.rate_toward.ensures, c.thrust_attitude-r_d.ensures, s.sanitise3.ensures, s.quat_to_rotmat-r.ensures)
