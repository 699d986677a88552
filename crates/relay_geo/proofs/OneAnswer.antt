-- Of each public function here: no second answer fits its promise. Assumes nothing.
use Rattle.laws.proofs.Prelude.{◌≡◌, refl}
use Rattle.laws.proofs.Determined.{Promise, OneAnswer, Says, no_second, both}
use Rattle.relay_geo.specs.{Shield.step, Lent.picked_of}
use Rattle.relay_geo.specs.contracts as promised
use Rattle.relay_geo.proofs.attitude
use Rattle.relay_geo.proofs.controller
use Rattle.relay_geo.proofs.set
use Rattle.relay_geo.proofs.shield
use Rattle.relay_geo.specs.contracts.shield.SimplexShield.step_lent as lent
use Rattle.relay_geo.proofs.vectors

pub quat_to_rotmat_once : OneAnswer promised.attitude.quat_to_rotmat.ended attitude.quat_to_rotmat.Reads.Post
quat_to_rotmat_once κs a x y v w p q = (no_second p q, refl)

pub desired_attitude_once : OneAnswer promised.attitude.desired_attitude.ended attitude.desired_attitude.Reads.Post
desired_attitude_once κs a x y v w p q = (no_second p q, refl)

pub thrust_axis_ned_once : OneAnswer promised.attitude.thrust_axis_ned.ended attitude.thrust_axis_ned.Reads.Post
thrust_axis_ned_once κs a x y v w p q = (no_second p q, refl)

pub thrust_attitude_once : OneAnswer promised.attitude.thrust_attitude.ended attitude.thrust_attitude.Reads.Post
thrust_attitude_once κs a x y v w p q = (no_second p q, refl)

pub flatness_omega_ff_once : OneAnswer promised.attitude.flatness_omega_ff.ended attitude.flatness_omega_ff.Reads.Post
flatness_omega_ff_once κs a x y v w p q = (no_second p q, refl)

pub thrust_of_once : OneAnswer promised.attitude.thrust_of.ended attitude.thrust_of.Reads.Post
thrust_of_once κs a x y v w p q = (no_second p q, refl)

pub attitude_on_once : OneAnswer promised.attitude.attitude_on.ended attitude.attitude_on.Reads.Post
attitude_on_once κs a x y v w p q = (no_second p q, refl)

pub feedforward_on_once : OneAnswer promised.attitude.feedforward_on.ended attitude.feedforward_on.Reads.Post
feedforward_on_once κs a x y v w p q = (no_second p q, refl)

pub geo_gains_falcon_quad_once : OneAnswer promised.controller.GeoGains.falcon_quad.ended controller.GeoGains.falcon_quad.Reads.Post
geo_gains_falcon_quad_once κs a x y v w p q = (no_second p q, refl)

pub geo_att_new_once : OneAnswer promised.controller.GeoAtt.new.ended controller.GeoAtt.new.Reads.Post
geo_att_new_once κs a x y v w p q = (no_second p q, refl)

pub geo_att_psi_once : OneAnswer promised.controller.GeoAtt.psi.ended controller.GeoAtt.psi.Reads.Post
geo_att_psi_once κs a x y v w p q = (no_second p q, refl)

pub geo_att_attitude_error_once : OneAnswer promised.controller.GeoAtt.attitude_error.ended controller.GeoAtt.attitude_error.Reads.Post
geo_att_attitude_error_once κs a x y v w p q = (no_second p q, refl)

pub geo_att_attitude_error_reduced_once : OneAnswer promised.controller.GeoAtt.attitude_error_reduced.ended controller.GeoAtt.attitude_error_reduced.Reads.Post
geo_att_attitude_error_reduced_once κs a x y v w p q = (no_second p q, refl)

pub geo_att_moment_reduced_once : OneAnswer promised.controller.GeoAtt.moment_reduced.ended controller.GeoAtt.moment_reduced.Reads.Post
geo_att_moment_reduced_once κs a x y v w p q = (no_second p q, refl)

pub geo_att_moment_once : OneAnswer promised.controller.GeoAtt.moment.ended controller.GeoAtt.moment.Reads.Post
geo_att_moment_once κs a x y v w p q = (no_second p q, refl)

pub geo_att_rate_toward_once : OneAnswer promised.controller.GeoAtt.rate_toward.ended controller.GeoAtt.rate_toward.Reads.Post
geo_att_rate_toward_once κs a x y v w p q = (no_second p q, refl)

pub geo_att_desired_rate_once : OneAnswer promised.controller.GeoAtt.desired_rate.ended controller.GeoAtt.desired_rate.Reads.Post
geo_att_desired_rate_once κs a x y v w p q = (no_second p q, refl)

pub geo_att_tick_once : OneAnswer promised.controller.GeoAtt.tick.ended controller.GeoAtt.tick.Reads.Post
geo_att_tick_once κs a x y v w p q = (no_second p q, refl)

pub recoverable_set_new_once : OneAnswer promised.set.RecoverableSet.new.ended set.RecoverableSet.new.Reads.Post
recoverable_set_new_once κs a x y v w p q = (no_second p q, refl)

pub recoverable_set_margin_once : OneAnswer promised.set.RecoverableSet.margin.ended set.RecoverableSet.margin.Reads.Post
recoverable_set_margin_once κs a x y v w p q = (no_second p q, refl)

pub recoverable_set_recoverable_once : OneAnswer promised.set.RecoverableSet.recoverable.ended set.RecoverableSet.recoverable.Reads.Post
recoverable_set_recoverable_once κs a x y v w p q = (no_second p q, refl)

pub mend_once : OneAnswer promised.shield.mend.ended shield.mend.Reads.Post
mend_once κs a x y v w p q = (no_second p q, refl)

pub simplex_shield_new_once : OneAnswer promised.shield.SimplexShield.new.ended shield.SimplexShield.new.Reads.Post
simplex_shield_new_once κs a x y v w p q = (no_second p q, refl)

pub simplex_shield_fallback_engaged_once : OneAnswer promised.shield.SimplexShield.fallback_engaged.ended shield.SimplexShield.fallback_engaged.Reads.Post
simplex_shield_fallback_engaged_once κs a x y v w p q = (no_second p q, refl)

pub simplex_shield_filter_once : OneAnswer promised.shield.SimplexShield.filter.ended shield.SimplexShield.filter.Reads.Post
simplex_shield_filter_once κs a x y v w p q = (no_second p q, refl)

pub simplex_shield_step_once : OneAnswer promised.shield.SimplexShield.step.ended shield.SimplexShield.step.Reads.Post
simplex_shield_step_once κs a x y v w p q = (no_second p q, refl)

pub cross_once : OneAnswer promised.vectors.cross.ended vectors.cross.Reads.Post
cross_once κs a x y v w p q = (no_second p q, refl)

pub dot_once : OneAnswer promised.vectors.dot.ended vectors.dot.Reads.Post
dot_once κs a x y v w p q = (no_second p q, refl)

pub norm_once : OneAnswer promised.vectors.norm.ended vectors.norm.Reads.Post
norm_once κs a x y v w p q = (no_second p q, refl)

pub normalize_once : OneAnswer promised.vectors.normalize.ended vectors.normalize.Reads.Post
normalize_once κs a x y v w p q = (no_second p q, refl)

pub identity3_once : OneAnswer promised.vectors.identity3.ended vectors.identity3.Reads.Post
identity3_once κs a x y v w p q = (no_second p q, refl)

pub transpose3_once : OneAnswer promised.vectors.transpose3.ended vectors.transpose3.Reads.Post
transpose3_once κs a x y v w p q = (no_second p q, refl)

pub matmul3_once : OneAnswer promised.vectors.matmul3.ended vectors.matmul3.Reads.Post
matmul3_once κs a x y v w p q = (no_second p q, refl)

pub vee_once : OneAnswer promised.vectors.vee.ended vectors.vee.Reads.Post
vee_once κs a x y v w p q = (no_second p q, refl)

pub sanitise3_once : OneAnswer promised.vectors.sanitise3.ended vectors.sanitise3.Reads.Post
sanitise3_once κs a x y v w p q = (no_second p q, refl)

-- Of `step_lent`: what it promises, and that its own clause is that.
abbrev Stepped : Promise lent.ended
Stepped κs a r e =
    let next = step a.0.now a.1.0 a.1.1.0 a.1.1.1.0 in
    (r ≡ picked_of next) × (e.0.now ≡ next.shield)

pub step_lent_says : Says lent.ended (λ M 𝓤. lent.clauses) Stepped
step_lent_says M 𝓤 𝓛 mem run κs a g r e = refl

pub step_lent_once : OneAnswer lent.ended Stepped
step_lent_once κs a x y v w p q = (no_second p.0 q.0, both (no_second p.1 q.1) refl)
