-- What the answer can hold: of its numbers only psi can be a NaN. Assumes nothing.
use Rattle.laws.proofs.Prelude.{sym, subst, inl, inr, Bool, true, false, not, cond, T, Float, is_nan, of_bits, held}
use Rattle.relay_math.{specs.{F32.is_finite, declared.{Vec3.Vec3, BodyRate.BodyRate}}, proofs.Order.finite_number}
use Rattle.relay_adrc.{specs.declared.rate.AdrcRate.AdrcRate, proofs.Ticks.tick_finite}
use Rattle.relay_geo.specs.{declared.{controller.GeoGains.GeoGains, set.RecoverableSet.RecoverableSet}, Vectors.{sanitise3, Finite3}, Attitude.{quat_to_rotmat, thrust_axis_ned}, Set.minus_infinity}
use Rattle.relay_geo.proofs.{Sanitised.sanitise3_finite, MarginRange.{Ranges, margin_finite_or_minus_infinity}}
use Rattle.relay_traj.{specs.Governor.Running, proofs.GovernorClock.never_nan}
use Rattle.joint_tick.specs.declared.{profile.Profile.{Profile, TheVariants.{Whole, LostRotor}}, state.{State.State, TickInput.TickInput, Answer.Answer}, stages.Reference.Reference}
use Rattle.joint_tick.specs.Tick.{cleaned, desired_r, feedforward, rate_error, rate_sq, psi_of, psi_to_axis, tilt_rate_sq, guide_whole, guide_lost_rotor, guide, guidance, follow, ticked}
use Rattle.joint_tick.proofs.{Once.{one_margin, one_margin_to_axis}, Shielding.{filtered, wanted_at, planner_finite, tick_margin, tick_command, tick_torque}}
use Rattle.joint_tick.proofs.TickClock.{tick_time, time_never_back}

-- ---- the margin is finite or minus infinity, with R_d and without

pub guide_margin_ranges : (p : Profile) (gains : GeoGains) (set : RecoverableSet) (w : BodyRate) (wanted : Reference) (i : TickInput) → Ranges (guide p gains set w wanted i).margin
unfolding guide guide_whole guide_lost_rotor
guide_margin_ranges Whole gains set w wanted i =
    let r = quat_to_rotmat i.quat in let rd = desired_r wanted i in
    let wSq = rate_sq (rate_error w r (feedforward wanted i) rd) in
    subst Ranges (one_margin set r rd wSq) (margin_finite_or_minus_infinity set (psi_of r rd) wSq)
guide_margin_ranges LostRotor gains set w wanted i =
    let r = quat_to_rotmat i.quat in let axis = thrust_axis_ned (cleaned wanted).acc in
    subst Ranges (one_margin_to_axis set r axis (tilt_rate_sq w)) (margin_finite_or_minus_infinity set (psi_to_axis r axis) (tilt_rate_sq w))

minus_infinity_number : T (not (is_nan minus_infinity))
unfolding is_nan
minus_infinity_number = tt

ranges_number : (m : Float) → Ranges m → T (not (is_nan m))
ranges_number m (inl f) = finite_number m (held f)
ranges_number m (inr e) = subst (λ (x : Float). T (not (is_nan x))) (sym e) minus_infinity_number

-- ---- torque and command are finite

rate_finite : (p : Profile) (r : AdrcRate) (m w : BodyRate) (dt : Float) → Finite3 (follow p r m w dt).torque.0
unfolding follow is_finite of_bits
rate_finite Whole r m w dt = record { x = (tick_finite r.roll _ _ dt).u; y = (tick_finite r.pitch _ _ dt).u; z = (tick_finite r.yaw _ _ dt).u }
rate_finite LostRotor r m w dt = record { x = (tick_finite r.roll _ _ dt).u; y = (tick_finite r.pitch _ _ dt).u; z = tt }

-- three finite numbers each, a time and a margin that are numbers
pub record Numbers (a : Answer) : Type 0 where
  pub torque : Finite3 a.torque.0
  pub command : Finite3 a.command.0
  pub time : T (not (is_nan a.time))
  pub margin : T (not (is_nan a.margin))

module _ (source : Float → Reference) (s : State) (i : TickInput) where
  pub command_finite : Finite3 (ticked source s i).answer.command.0
  command_finite = rw tick_command (either (ticked source s i).answer.fallback (guidance source s i).fallback.0 _ (planner_finite s.fixed.profile i.agile))
    where
      either : (b : Bool) (v : Vec3) (w : BodyRate) → Finite3 w.0 → Finite3 (cond {A = BodyRate} b record { 0 = sanitise3 v } w).0
      either true v w f = sanitise3_finite v
      either false v w f = f

  pub torque_finite : Finite3 (ticked source s i).answer.torque.0
  torque_finite = rw tick_torque (rate_finite _ _ _ _ _)

  pub margin_ranges : Ranges (ticked source s i).answer.margin
  unfolding guidance
  margin_ranges = rw (tick_margin source s i) (guide_margin_ranges s.fixed.profile s.fixed.gains s.fixed.set (filtered source s i) (wanted_at source s i) i)

  pub answer_finite : Running s.moving.governor.s → Numbers (ticked source s i).answer
  answer_finite r =
      record {
        torque = torque_finite;
        command = command_finite;
        time = rw tick_time (never_nan (time_never_back source s i r).1);
        margin = ranges_number (ticked source s i).answer.margin margin_ranges;
      }
