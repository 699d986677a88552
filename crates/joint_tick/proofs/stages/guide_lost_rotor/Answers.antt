use Rattle.joint_tick.proofs.Once.{guided_lost_once}
use Rattle.joint_tick.proofs.stages.guide_lost_rotor.Goals as goal

pub returns : goal.returns
returns c =
    let m = c.before in let p = m.before.before in let w = p.before in let q = w.before in let t = q.before in
    simp (c.sanitise3-planner.ensures, m.margin-margin.ensures, m.tilt_rate_sq.ensures, p.psi_to_axis-psi.ensures)
    (simp (w.rate_toward_axis-fallback.ensures, q.quat_to_rotmat-r.ensures, t.thrust_axis_ned-axis.ensures, t.sanitise3.ensures)
    (guided_lost_once _ _ _ _ _))
