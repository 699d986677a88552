-- Request Six: a tick with a rotor lost. Assumes nothing.
use Rattle.std.specs.Prelude.{Option, Some, None}
use Rattle.laws.proofs.Prelude.{◌≡◌, refl, ap, ◌∙◌, Bool, true, false, cond, Float, of_bits}
use Rattle.relay_math.specs.{F32.{0·0, is_finite}, declared.{BodyRate.BodyRate, Vec3.Vec3}}
use Rattle.relay_adrc.specs.{declared.rate.AdrcRate.AdrcRate, Rate.{rate_tick, rate_set_delivered_fraction}}
use Rattle.relay_geo.specs.{declared.{vectors.Mat3.Mat3, controller.GeoGains.GeoGains}, Vectors.sanitise3, Attitude.{quat_to_rotmat, thrust_axis_ned}}
use Rattle.joint_tick.specs.declared.{profile.Profile.{Profile, TheVariants.{Whole, LostRotor}}, state.{State.State, TickInput.TickInput}, stages.{Reference.Reference, Guided.Guided}}
use Rattle.joint_tick.specs.Tick.{cleaned, planner_of, fractions, prepare, rate_toward_axis, guide_lost_rotor, guide, follow, pick, guide_pick_follow, ticked, state_after}
use Rattle.joint_tick.proofs.Shielding.{wanted_at, by_profile, tick_command}

-- ---- the old rules are as they were: each part that goes by the profile is the routine that stood there (`guide Whole` is `guide_whole` as it is written)

pub old_fractions : (r : AdrcRate) (fraction : Vec3) → fractions Whole r fraction ≡ rate_set_delivered_fraction r fraction
old_fractions r fraction = refl

pub old_follow : (r : AdrcRate) (measured wanted : BodyRate) (dt : Float) → follow Whole r measured wanted dt ≡ rate_tick r measured wanted dt
unfolding follow rate_tick
old_follow r measured wanted dt = refl

-- ---- a rotor lost

-- the input with another heading
abbrev pub headed : TickInput → Float → Float → TickInput
headed i yaw yawRate =
    record { gyro = i.gyro; quat = i.quat; track_err = i.track_err; yaw = yaw; yaw_rate = yawRate; dt = i.dt; agile = i.agile; fraction = i.fraction }

-- the third of either command
third_of_two : (gains : GeoGains) (r : Mat3) (axis : Option Vec3) → (sanitise3 (rate_toward_axis gains r axis).0).2 ≡ 0·0
unfolding is_finite of_bits
third_of_two gains r (Some b3) = refl
third_of_two gains r None = refl

module _ (source : Float → Reference) (s : State) (i : TickInput) (lost : s.fixed.profile ≡ LostRotor) where
  -- "yaw isn't read": two inputs that differ in yaw and yaw rate alone leave the same state and the same answer
  pub heading_unread : (yaw yawRate : Float)
      → (ticked source s (headed i yaw yawRate) ≡ ticked source s i) × (state_after source s (headed i yaw yawRate) ≡ state_after source s i)
  unfolding ticked prepare guide_pick_follow pick guide guide_lost_rotor
  heading_unread yaw yawRate = (rw lost, rw lost)

  -- "The third ADRC axis is left as it was, its fraction included, and its torque is zero."
  pub third_stands : ((ticked source s i).rate.yaw ≡ s.moving.rate.yaw) × ((ticked source s i).answer.torque.0.2 ≡ 0·0)
  unfolding ticked prepare guide_pick_follow pick follow
  third_stands = (rw lost, rw lost)

  -- "the third is zero" of the fallback, and of the planner's command: so of whichever is passed on
  pub third_command_zero : (ticked source s i).answer.command.0.2 ≡ 0·0
  unfolding guide guide_lost_rotor
  third_command_zero =
      let fallback = ap (λ (g : Guided). (sanitise3 g.fallback.0).2) (by_profile source s i lost) ∙ third_of_two s.fixed.gains (quat_to_rotmat i.quat)
      (thrust_axis_ned (cleaned (wanted_at source s i)).acc) in
      let planner = ap (λ (p : Profile). (planner_of p i.agile).0.2) lost in
      ap (λ (w : BodyRate). w.0.2) (tick_command source s i) ∙ either (ticked source s i).answer.fallback _ _ fallback planner
    where
      either : (b : Bool) (v w : BodyRate) → v.0.2 ≡ 0·0 → w.0.2 ≡ 0·0 → (cond b v w).0.2 ≡ 0·0
      either true v w p q = p
      either false v w p q = q
