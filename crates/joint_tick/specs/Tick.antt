-- The joint tick, stage by stage, in document 01's order and with the Rust's own calls. Definitions only.
use Rattle.std.specs.Prelude.{cond, Float, Option, Some, None}
use Rattle.std.specs.Float.{nan}
use Rattle.std.specs.Float.Ieee.{neg, eq}
use Rattle.relay_math.specs.declared.Vec3.{Vec3}
use Rattle.relay_math.specs.declared.BodyRate.{BodyRate}
use Rattle.relay_math.specs.F32.{◌⊕◌, ◌⊖◌, ◌⊗◌, 0·0, 1·0, ∞}
use Rattle.relay_adrc.specs.declared.axis.AdrcAxis.{AdrcAxis}
use Rattle.relay_adrc.specs.declared.axis.AxisTick.{AxisTick}
use Rattle.relay_adrc.specs.declared.rate.AdrcRate.{AdrcRate}
use Rattle.relay_adrc.specs.declared.rate.RateTick.{RateTick}
use Rattle.relay_adrc.specs.Axis.{axis_tick, axis_set_delivered_fraction}
use Rattle.relay_adrc.specs.Biquad.{gyro_filter}
use Rattle.relay_geo.specs.declared.vectors.Mat3.{Mat3}
use Rattle.relay_geo.specs.declared.controller.GeoGains.{GeoGains}
use Rattle.relay_geo.specs.declared.set.RecoverableSet.{RecoverableSet}
use Rattle.relay_geo.specs.declared.shield.SimplexShield.{SimplexShield}
use Rattle.relay_geo.specs.declared.shield.Shielded.{Shielded}
use Rattle.relay_geo.specs.Vectors.{dot, column2, transpose3, matmul3, sanitise3}
use Rattle.relay_geo.specs.Attitude.{quat_to_rotmat, thrust_axis_ned, thrust_attitude, flatness_omega_ff}
use Rattle.relay_geo.specs.Controller.{psi, attitude_error_reduced, desired_rate}
use Rattle.relay_geo.specs.Set.{minus_infinity, margin}
use Rattle.relay_geo.specs.Shield.{step}
use Rattle.relay_traj.specs.declared.segment.Segment3.{Segment3}
use Rattle.relay_traj.specs.declared.segment.Sample3.{Sample3}
use Rattle.relay_traj.specs.Governor.{advance}
use Rattle.relay_traj.specs.Segment.{duration, eval3}
use Rattle.joint_tick.specs.declared.profile.Profile.{Profile}
use Rattle.joint_tick.specs.declared.profile.Profile.TheVariants.{Whole, LostRotor}
use Rattle.joint_tick.specs.declared.state.Fixed.{Fixed}
use Rattle.joint_tick.specs.declared.state.Moving.{Moving}
use Rattle.joint_tick.specs.declared.state.State.{State}
use Rattle.joint_tick.specs.declared.state.TickInput.{TickInput}
use Rattle.joint_tick.specs.declared.stages.Prepared.{Prepared}
use Rattle.joint_tick.specs.declared.stages.Reference.{Reference}
use Rattle.joint_tick.specs.declared.stages.Guided.{Guided}
use Rattle.joint_tick.specs.declared.stages.Ticked.{Ticked}

-- ---- the two parts of the state

-- the shield has its set and its thresholds in the one and its flag in the other
abbrev pub shield_of : State → SimplexShield
shield_of s = record { set = s.fixed.set; engaged = s.moving.engaged; enter = s.fixed.enter; exit = s.fixed.exit }

-- ---- prepare: "set the fractions; filter the gyro; advance the governor"

-- Request Six: "The third ADRC axis is left as it was, its fraction included, and its torque is zero." (`tick_third`, below, has the rest.)
abbrev pub fraction_third : Profile → AdrcAxis → Float → AdrcAxis
fraction_third Whole axis fraction = axis_set_delivered_fraction axis fraction
fraction_third LostRotor axis fraction = axis

abbrev pub fractions : Profile → AdrcRate → Vec3 → AdrcRate
fractions profile r fraction =
    record {
      roll = axis_set_delivered_fraction r.roll fraction.0;
      pitch = axis_set_delivered_fraction r.pitch fraction.1;
      yaw = fraction_third profile r.yaw fraction.2;
    }

unfoldable pub prepare : Profile → Moving → TickInput → Prepared
prepare profile m i =
    let rate = fractions profile m.rate i.fraction in
    let filtered = gyro_filter m.lpf i.gyro in
    let advanced = advance m.governor i.track_err i.dt in
    record {
      moving = record { engaged = m.engaged; governor = advanced.governor; rate = rate; lpf = filtered.lpf };
      rate = filtered.rate;
      time = advanced.time;
    }

-- ---- sample: "evaluate the segment there, at its duration (the first axis's t_end) if the time is +infinity"

abbrev pub sample_time : Segment3 → Float → Float
sample_time g time = cond (eq time ∞) (duration g) time

abbrev pub sample_at3 : Segment3 → Float → Sample3
sample_at3 g time = eval3 g (sample_time g time)

-- what guides a tick of it
abbrev pub reference_in : Sample3 → Reference
reference_in s = record { acc = s.acc; jerk = s.jerk }

unfoldable pub reference_at : Segment3 → Float → Reference
reference_at g time = reference_in (sample_at3 g time)

-- ---- guide by the old rules: "make non-finite acceleration and jerk zero; build R and R_d" ..

abbrev pub cleaned : Reference → Reference
cleaned wanted = record { acc = sanitise3 wanted.acc; jerk = sanitise3 wanted.jerk }

-- the planner's command; "A planner's third component is made zero" with a rotor lost
abbrev pub planner_of : Profile → BodyRate → BodyRate
planner_of Whole agile = record { 0 = sanitise3 agile.0 }
planner_of LostRotor agile = let v = sanitise3 agile.0 in record { 0 = (v.0, v.1, 0·0) }

-- R_d
abbrev pub desired_r : Reference → TickInput → Option Mat3
desired_r wanted i = thrust_attitude (cleaned wanted).acc i.yaw

-- the feedforward
abbrev pub feedforward : Reference → TickInput → Option BodyRate
feedforward wanted i = flatness_omega_ff (cleaned wanted).acc (cleaned wanted).jerk i.yaw i.yaw_rate

-- "`desired_rate` plus `flatness_omega_ff`, without the sum where the latter refuses". Without the sum isn't plus zero: a -0.0 stays.
abbrev pub with_feedforward : BodyRate → Option BodyRate → BodyRate
with_feedforward omega (Some f) = record { 0 = (omega.0.0 ⊕ f.0.0, omega.0.1 ⊕ f.0.1, omega.0.2 ⊕ f.0.2) }
with_feedforward omega None = omega

-- the commanded rate, from R_d's axes to R's: the product of the matrices, then its rows with f, which start from no 0.0
unfoldable pub commanded : Mat3 → Mat3 → Vec3 → Vec3
commanded r rd f = let m = matmul3 (transpose3 r) rd in (dot m.0 f, dot m.1 f, dot m.2 f)

-- Request Four: "In the joint tick the rate error is the filtered rate less R transposed times R_d times the feedforward, matrix product first, then the
-- vector; where the feedforward refuses, the old rule holds." That is the filtered rate itself, as where there is no R_d.
abbrev pub rate_error : BodyRate → Mat3 → Option BodyRate → Option Mat3 → BodyRate
rate_error omega r (Some f) (Some rd) =
    let c = commanded r rd f.0 in
    record { 0 = (omega.0.0 ⊖ c.0, omega.0.1 ⊖ c.1, omega.0.2 ⊖ c.2) }
rate_error omega r (Some f) None = omega
rate_error omega r None rd = omega

-- "the squared length" of the rate error
unfoldable pub rate_sq : BodyRate → Float
rate_sq e = dot e.0 e.0

-- "If there is no R_d the margin is minus infinity and the psi word NaN."
abbrev pub psi_of : Mat3 → Option Mat3 → Float
psi_of r (Some rd) = psi r rd
psi_of r None = nan

abbrev pub margin_of : RecoverableSet → Mat3 → Option Mat3 → Float → Float
margin_of set r (Some rd) wSq = margin set (psi r rd) wSq
margin_of set r None wSq = minus_infinity

unfoldable pub guide_whole : GeoGains → RecoverableSet → BodyRate → Reference → TickInput → Guided
guide_whole gains set omega wanted i =
    let r = quat_to_rotmat i.quat in
    let rd = desired_r wanted i in
    let ff = feedforward wanted i in
    record {
      fallback = with_feedforward (desired_rate gains i.quat (cleaned wanted).acc i.yaw) ff;
      psi = psi_of r rd;
      margin = margin_of set r rd (rate_sq (rate_error omega r ff rd));
      planner = planner_of Whole i.agile;
    }

-- ---- guide with a rotor lost, request Six. "R_d isn't built and yaw isn't read; document 01's rule for a missing R_d doesn't apply."

-- "There the error is `attitude_error_reduced` toward the thrust axis. The fallback's first two components are -k_r times the error, the third is zero,
-- with no feedforward." .. "Where the thrust axis refuses, the fallback is zero, psi is NaN and the margin minus infinity."
abbrev pub rate_toward_axis : GeoGains → Mat3 → Option Vec3 → BodyRate
rate_toward_axis gains r (Some b3) =
    let e = attitude_error_reduced r b3 in
    record { 0 = (neg gains.k_r.0 ⊗ e.0, neg gains.k_r.1 ⊗ e.1, 0·0) }
rate_toward_axis gains r None = record { 0 = (0·0, 0·0, 0·0) }

-- "Psi is 1 less the dot product of R's third column with that axis."
abbrev pub psi_to_axis : Mat3 → Option Vec3 → Float
psi_to_axis r (Some b3) = 1·0 ⊖ dot (column2 r) b3
psi_to_axis r None = nan

-- "The margin's squared rate is that of the first two filtered components."
abbrev pub tilt_rate_sq : BodyRate → Float
tilt_rate_sq omega = omega.0.0 ⊗ omega.0.0 ⊕ omega.0.1 ⊗ omega.0.1

abbrev pub margin_to_axis : RecoverableSet → Mat3 → Option Vec3 → Float → Float
margin_to_axis set r (Some b3) wSq = margin set (psi_to_axis r (Some b3)) wSq
margin_to_axis set r None wSq = minus_infinity

unfoldable pub guide_lost_rotor : GeoGains → RecoverableSet → BodyRate → Reference → TickInput → Guided
guide_lost_rotor gains set omega wanted i =
    let r = quat_to_rotmat i.quat in
    let axis = thrust_axis_ned (cleaned wanted).acc in
    record {
      fallback = rate_toward_axis gains r axis;
      psi = psi_to_axis r axis;
      margin = margin_to_axis set r axis (tilt_rate_sq omega);
      planner = planner_of LostRotor i.agile;
    }

-- ---- guide by the profile

unfoldable pub guide : Profile → GeoGains → RecoverableSet → BodyRate → Reference → TickInput → Guided
guide Whole gains set omega wanted i = guide_whole gains set omega wanted i
guide LostRotor gains set omega wanted i = guide_lost_rotor gains set omega wanted i

-- ---- pick: "The shield picks, non-finite numbers of the pick made +0.0; ADRC ticks on the filtered gyro, the pick and dt."

abbrev pub shielded : Fixed → Prepared → Guided → Shielded
shielded f p g = step (shield_of record { fixed = f; moving = p.moving }) g.margin g.planner g.fallback

abbrev pub tick_third : Profile → AdrcAxis → Float → Float → Float → AxisTick
tick_third Whole axis measured wanted dt = axis_tick axis measured wanted dt
tick_third LostRotor axis measured wanted dt = record { axis = axis; u = 0·0 }

-- ADRC's tick, `rate_tick` but for the third axis
unfoldable pub follow : Profile → AdrcRate → BodyRate → BodyRate → Float → RateTick
follow profile r measured wanted dt =
    let roll = axis_tick r.roll measured.0.0 wanted.0.0 dt in
    let pitch = axis_tick r.pitch measured.0.1 wanted.0.1 dt in
    let yaw = tick_third profile r.yaw measured.0.2 wanted.0.2 dt in
    record {
      rate = record { roll = roll.axis; pitch = pitch.axis; yaw = yaw.axis };
      torque = record { 0 = (roll.u, pitch.u, yaw.u) };
    }

abbrev pub ticked_of : Prepared → Guided → Shielded → RateTick → Ticked
ticked_of p g shielded followed =
    record {
      engaged = shielded.shield.engaged;
      rate = followed.rate;
      answer =
          record { torque = followed.torque; command = shielded.command; fallback = shielded.fallback; time = p.time; psi = g.psi; margin = g.margin };
    }

unfoldable pub pick : Fixed → Prepared → Guided → Float → Ticked
pick f p g dt =
    let shielded = shielded f p g in
    ticked_of p g shielded (follow f.profile p.moving.rate p.rate shielded.command dt)

-- ---- the tick, from any source of references, by the time

-- all that comes after the reference
unfoldable pub guide_pick_follow : Fixed → Prepared → Reference → TickInput → Ticked
guide_pick_follow f p wanted i = pick f p (guide f.profile f.gains f.set p.rate wanted i) i.dt

unfoldable pub ticked : (Float → Reference) → State → TickInput → Ticked
ticked source s i =
    let p = prepare s.fixed.profile s.moving i in
    guide_pick_follow s.fixed p (source p.time) i

-- what it is guided to
unfoldable pub guidance : (Float → Reference) → State → TickInput → Guided
guidance source s i =
    let p = prepare s.fixed.profile s.moving i in
    guide s.fixed.profile s.fixed.gains s.fixed.set p.rate (source p.time) i

-- and the state that it leaves: what is fixed stays; the governor and the filters are as they were prepared
abbrev pub state_after : (Float → Reference) → State → TickInput → State
state_after source s i =
    let p = prepare s.fixed.profile s.moving i in
    let t = ticked source s i in
    record { fixed = s.fixed; moving = record { engaged = t.engaged; governor = p.moving.governor; rate = t.rate; lpf = p.moving.lpf } }
