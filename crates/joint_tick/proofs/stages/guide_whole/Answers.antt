use Rattle.joint_tick.proofs.Once.{guided_once}
use Rattle.joint_tick.proofs.stages.guide_whole.Goals as goal

pub returns : goal.returns
returns c =
    let m = c.before in let e = m.before.before in let p = e.before in let w = p.before.before in
    let d = w.before.before in let t = d.before.before in
    simp (c.sanitise3.ensures, m.margin-margin.ensures, m.rate_sq.ensures, e.rate_error-error.ensures, p.psi_of-psi.ensures, p.plus-fallback.ensures)
    (simp (w.rate_toward.ensures, w.feedforward_on-feedforward.ensures, d.attitude_on-r_d.ensures, d.quat_to_rotmat-r.ensures, t.thrust_of-thrust.ensures, t.clean-w.ensures)
    (guided_once _ _ _ _ _))
