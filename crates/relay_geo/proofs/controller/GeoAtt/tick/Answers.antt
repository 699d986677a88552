use Rattle.relay_geo.specs.Controller.{tick}
use Rattle.relay_geo.proofs.controller.GeoAtt.tick.Goals as goal

pub returns : goal.returns
unfolding tick
returns c =
    let s = c.before.before in
    simp (c.torque_toward.ensures, c.thrust_attitude-r_d.ensures, s.sanitise3-2.ensures, s.sanitise3.ensures, s.quat_to_rotmat-r.ensures)
