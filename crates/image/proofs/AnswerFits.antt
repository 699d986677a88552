-- Margin, command and torque of a tick are f32 values, so that their words are read again. Assumes nothing.
use Rattle.std.specs.Prelude.{Option, Some, None}
use Rattle.laws.proofs.Prelude.{Bool, true, false, cond, List, ℕ, Float}
use lib.Ieee.Fits.{inf-fits}
use Rattle.words.{specs.Words.vec, proofs.WordsBack.float_fits}
use Rattle.relay_math.specs.declared.{Vec3.Vec3, BodyRate.BodyRate}
use Rattle.relay_geo.specs.declared.{vectors.Mat3.Mat3, controller.GeoGains.GeoGains}
use Rattle.relay_geo.specs.{declared.set.RecoverableSet.RecoverableSet, Vectors.sanitise3, Attitude.{quat_to_rotmat, thrust_axis_ned, thrust_attitude, flatness_omega_ff}, Set.margin}
use Rattle.relay_geo.specs.Controller.{rate_toward, desired_rate}
use Rattle.relay_adrc.specs.{declared.{axis.AdrcAxis.AdrcAxis, rate.AdrcRate.AdrcRate}, Axis.axis_tick}
use Rattle.joint_tick.specs.declared.{profile.Profile.{Profile, TheVariants.{Whole, LostRotor}}, state.{State.State, TickInput.TickInput}, stages.Reference.Reference}
use Rattle.joint_tick.specs.Tick.{planner_of, cleaned, desired_r, feedforward, with_feedforward, rate_error, rate_sq, margin_of, guide_whole, rate_toward_axis, tilt_rate_sq, margin_to_axis, guide_lost_rotor, guide}
use Rattle.joint_tick.{specs.Tick.{guidance, follow, ticked}, proofs.Shielding.{filtered, wanted_at, tick_command, tick_torque}}
use Rattle.image.specs.{Inputs.input_at, Fits.{F32, FitsVec}}
use Rattle.image.proofs.Fitting.{fitting}

margin_of_fits : (set : RecoverableSet) (r : Mat3) (a : Option Mat3) (wSq : Float) → F32 (margin_of set r a wSq)
unfolding margin
margin_of_fits set r (Some rd) wSq = search (fitting, inf-fits)
margin_of_fits set r None wSq = search inf-fits

margin_to_axis_fits : (set : RecoverableSet) (r : Mat3) (axis : Option Vec3) (wSq : Float) → F32 (margin_to_axis set r axis wSq)
unfolding margin
margin_to_axis_fits set r (Some b3) wSq = search (fitting, inf-fits)
margin_to_axis_fits set r None wSq = search inf-fits

rate_toward_axis_fits : (g : GeoGains) (r : Mat3) (axis : Option Vec3) → FitsVec (rate_toward_axis g r axis).0
rate_toward_axis_fits g r (Some b3) = search fitting
rate_toward_axis_fits g r None = search fitting

rate_toward_fits : (g : GeoGains) (r : Mat3) (a : Option Mat3) → FitsVec (rate_toward g r a).0
rate_toward_fits g r (Some rd) = search fitting
rate_toward_fits g r None = search fitting

plus_fits : (w : BodyRate) (f : Option BodyRate) → FitsVec w.0 → FitsVec (with_feedforward w f).0
plus_fits w (Some f) h = search fitting
plus_fits w None h = h

clean_fits : (v : Vec3) → FitsVec v → FitsVec (sanitise3 v)
clean_fits v f = search fitting

planner_fits : (p : Profile) (agile : BodyRate) → FitsVec agile.0 → FitsVec (planner_of p agile).0
planner_fits Whole agile f = clean_fits agile.0 f
planner_fits LostRotor agile f = search fitting

module _ (gains : GeoGains) (set : RecoverableSet) (w : BodyRate) (wanted : Reference) (i : TickInput) where
  guide_margin_fits : (p : Profile) → F32 (guide p gains set w wanted i).margin
  unfolding guide guide_whole guide_lost_rotor
  guide_margin_fits Whole =
      let r = quat_to_rotmat i.quat in let rd = desired_r wanted i in
      margin_of_fits set r rd (rate_sq (rate_error w r (feedforward wanted i) rd))
  guide_margin_fits LostRotor = margin_to_axis_fits set (quat_to_rotmat i.quat) (thrust_axis_ned (cleaned wanted).acc) (tilt_rate_sq w)

  guide_fallback_fits : (p : Profile) → FitsVec (guide p gains set w wanted i).fallback.0
  unfolding guide guide_whole guide_lost_rotor desired_rate
  guide_fallback_fits Whole =
      let c = cleaned wanted in
      plus_fits (desired_rate gains i.quat c.acc i.yaw) (flatness_omega_ff c.acc c.jerk i.yaw i.yaw_rate)
      (rate_toward_fits gains (quat_to_rotmat i.quat) (thrust_attitude (sanitise3 c.acc) i.yaw))
  guide_fallback_fits LostRotor = rate_toward_axis_fits gains (quat_to_rotmat i.quat) (thrust_axis_ned (cleaned wanted).acc)

module _ (source : Float → Reference) (s : State) where
  pub margin_fits : (i : TickInput) → F32 (guidance source s i).margin
  unfolding guidance
  margin_fits i = guide_margin_fits s.fixed.gains s.fixed.set (filtered source s i) (wanted_at source s i) i s.fixed.profile

  fallback_fits : (i : TickInput) → FitsVec (guidance source s i).fallback.0
  unfolding guidance
  fallback_fits i = guide_fallback_fits s.fixed.gains s.fixed.set (filtered source s i) (wanted_at source s i) i s.fixed.profile

  agile_fits : (b : List ℕ) → FitsVec (input_at b).agile.0
  unfolding input_at vec
  agile_fits b = search float_fits

  pub command_fits : (b : List ℕ) → FitsVec (ticked source s (input_at b)).answer.command.0
  command_fits b =
      let i = input_at b in
      rw (tick_command source s i)
      (either (ticked source s i).answer.fallback (guidance source s i).fallback.0 _ (fallback_fits i) (planner_fits s.fixed.profile i.agile (agile_fits b)))
    where
      either : (e : Bool) (v : Vec3) (w : BodyRate) → FitsVec v → FitsVec w.0 → FitsVec (cond {A = BodyRate} e record { 0 = sanitise3 v } w).0
      either true v w f g = clean_fits v f
      either false v w f g = g

-- ---- the torque is what ADRC's axes give

axis_torque_fits : (a : AdrcAxis) (m d dt : Float) → F32 (axis_tick a m d dt).u
unfolding axis_tick
axis_torque_fits a m d dt = search fitting

follow_fits : (p : Profile) (r : AdrcRate) (m d : BodyRate) (dt : Float) → FitsVec (follow p r m d dt).torque.0
unfolding follow
follow_fits Whole r m d dt = search axis_torque_fits
follow_fits LostRotor r m d dt = search (axis_torque_fits, fitting)

pub torque_fits : (source : Float → Reference) (s : State) (i : TickInput) → FitsVec (ticked source s i).answer.torque.0
torque_fits source s i = rw (tick_torque source s i) (follow_fits s.fixed.profile _ _ _ _)
