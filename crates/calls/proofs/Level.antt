-- Level flight at rest: its margin is 1.75, so that a fresh shield whose exit is 1 gives the planner control in the very first tick, in either profile. Assumes nothing.
use Rattle.std.specs.Prelude.{Some}
use Rattle.laws.proofs.Prelude.{◌≡◌, refl, ap, ◌∙◌, true, false, ℕ, Float, of_bits, to_bits, round, add, sub, mul, div, neg, lt, le, eq}
use Rattle.words.specs.Words.{word, float, vec}
use Rattle.relay_math.specs.{F32.{f32, 0·0, 0·5, 1·0, 1·75, is_finite, grains}, Sqrt.sqrtf, Steps.{sinf, cosf, sincos, cut_square, sin_poly, cos_poly, to_float, fixed, reduce_of, turned, large}}
use Rattle.relay_math.specs.declared.{Vec3.Vec3, BodyRate.BodyRate}
use Rattle.relay_geo.specs.Vectors.{9·81, cross, dot, normalize, identity3, prod3, matmul3, transposed_times}
use Rattle.relay_geo.specs.{Attitude.{quat_to_rotmat, thrust_force, thrust_axis_ned, thrust_attitude, body_rate, flatness_omega_ff}, Controller.psi, Set.{new_set, margin}, Shield.{mend_thresholds, new_shield}}
use Rattle.relay_geo.{proofs.AttitudeFigures.level, specs.declared.shield.SimplexShield.SimplexShield}
use Rattle.latch.specs.Latch.{latch}
use Rattle.relay_traj.specs.{Quintic.{quintic, of_mended, eval, sample_at, time_on, mend_ends as mend-leg}, Segment.{segment, eval3}, Governor.{advance, gate, gate_factor, clamp_to}}
use Rattle.relay_adrc.specs.Biquad.{lowpass_at, lowpass, biquad_filter, gyro_new, gyro_filter}
use Rattle.joint_tick.specs.declared.{profile.Profile.TheVariants.{Whole, LostRotor}, state.{State.State, TickInput.TickInput}, stages.{Reference.Reference, Guided.Guided}}
use Rattle.joint_tick.specs.SetUp.{set_up, segment_of}
use Rattle.joint_tick.specs.Tick.{prepare, reference_at, cleaned, commanded, rate_error, rate_sq, guide_whole, psi_to_axis, tilt_rate_sq, guide_lost_rotor, guide, guidance, shield_of, ticked}
use Rattle.joint_tick.proofs.Shielding.{filtered, wanted_at, by_profile, tick_latch}
use Rattle.image.specs.{Parts.{set_at, leg_at, quat_at, profile_at}, Inputs.{setup_at, input_at}}
use Rattle.calls.specs.Shams.{level_set_up_by, headed_input}

abbrev zeros : Vec3
zeros = (0·0, 0·0, 0·0)

-- ---- with no acceleration, at heading 0, the desired attitude is level

root_of_gravity : sqrtf (dot (0·0, 0·0, 9·81) (0·0, 0·0, 9·81)) ≡ 9·81
unfolding sqrtf grains of_bits dot add mul
root_of_gravity = refl

upright : thrust_axis_ned zeros ≡ Some (0·0, 0·0, 1·0)
unfolding thrust_axis_ned thrust_force normalize sub div is_finite lt of_bits
upright = rw root_of_gravity

at_rest_lem : thrust_attitude zeros 0·0 ≡ Some identity3
unfolding thrust_attitude
at_rest_lem = rw (upright, level)

-- and nothing is commanded

abbrev none : BodyRate
none = record { 0 = (f32 0x8000_0000, f32 0x8000_0000, 0·0) }

none_turning : body_rate 9·81 (0·0, 0·0, 1·0) zeros 0·0 identity3 ≡ none
unfolding body_rate cross transposed_times dot is_finite of_bits add sub mul div neg
none_turning = refl

none_ahead : flatness_omega_ff zeros zeros 0·0 0·0 ≡ Some none
unfolding flatness_omega_ff thrust_force is_finite lt le eq of_bits sub div
none_ahead = rw (root_of_gravity, level, none_turning)

-- ---- what the first tick reads, in either profile and at any heading

module _ (profile yaw : ℕ) where
  abbrev s : State
  s = set_up (setup_at (level_set_up_by profile))

  abbrev i : TickInput
  i = input_at (headed_input yaw)

  abbrev source : Float → Reference
  source = reference_at s.fixed.segment

  shield_is : shield_of s ≡ record { set = new_set 1·0 1·0 1·75; engaged = true; enter = 0·5; exit = 1·0 }
  unfolding set_up setup_at set_at float word new_shield mend_thresholds is_finite lt of_bits
  shield_is = refl

  no_motion : let w = cleaned (wanted_at source s i) in (w.acc ≡ zeros) × (w.jerk ≡ zeros)
  unfolding set_up setup_at input_at segment_of leg_at vec float word segment quintic mend-leg of_mended
      reference_at eval3 eval sample_at time_on prepare advance gate gate_factor clamp_to is_finite lt le eq of_bits add sub mul div neg
  no_motion = (refl, refl)

  no_rate : filtered source s i ≡ record { 0 = zeros }
  unfolding set_up setup_at input_at vec float word prepare gyro_new lowpass lowpass_at gyro_filter biquad_filter
      sinf cosf sincos cut_square sin_poly cos_poly to_float fixed reduce_of turned large is_finite lt le of_bits to_bits round add sub mul div neg
  no_rate = refl

  level_body : quat_to_rotmat i.quat ≡ identity3
  unfolding input_at quat_at float word quat_to_rotmat add sub mul of_bits
  level_body = refl

  -- a margin of 1.75 gives the planner control
  released : (guidance source s i).margin ≡ 1·75 → (ticked source s i).answer.fallback ≡ false
  unfolding latch is_finite lt of_bits
  released e =
      tick_latch source s i
      ∙ rw (e, ap (λ (h : SimplexShield). h.enter) shield_is, ap (λ (h : SimplexShield). h.exit) shield_is, ap (λ (h : SimplexShield). h.engaged) shield_is)

-- ---- by the old rules, at heading 0

whole : (s 0 0).fixed.profile ≡ Whole
unfolding set_up setup_at profile_at word
whole = refl

north : (i 0 0).yaw ≡ 0·0
unfolding input_at float word
north = refl

no_turning : (i 0 0).yaw_rate ≡ 0·0
unfolding input_at float word
no_turning = refl

level_margin : margin (new_set 1·0 1·0 1·75) (psi identity3 identity3) (rate_sq (rate_error record { 0 = zeros } identity3 (Some none) (Some identity3))) ≡ 1·75
unfolding margin psi prod3 matmul3 commanded rate_sq dot is_finite lt le of_bits add sub mul div
level_margin = refl

first_margin : (guidance (source 0 0) (s 0 0) (i 0 0)).margin ≡ 1·75
unfolding guide guide_whole
first_margin =
    ap (λ (g : Guided). g.margin) (by_profile (source 0 0) (s 0 0) (i 0 0) whole)
    ∙ rw (level_body 0 0, (no_motion 0 0).0, (no_motion 0 0).1, no_rate 0 0, north, no_turning, at_rest_lem, none_ahead, ap (λ (h : SimplexShield). h.set) (shield_is 0 0), level_margin)

pub planner_first : (ticked (source 0 0) (s 0 0) (i 0 0)).answer.fallback ≡ false
planner_first = released 0 0 first_margin

-- ---- with a rotor lost, at any heading: one that is no number takes nothing from the planner

module _ (yaw : ℕ) where
  lost : (s 1 yaw).fixed.profile ≡ LostRotor
  unfolding set_up setup_at profile_at word
  lost = refl

  tilt_margin : margin (new_set 1·0 1·0 1·75) (psi_to_axis identity3 (Some (0·0, 0·0, 1·0))) (tilt_rate_sq record { 0 = zeros }) ≡ 1·75
  unfolding margin dot is_finite lt le of_bits add sub mul div
  tilt_margin = refl

  pub planner_first_lost : (ticked (source 1 yaw) (s 1 yaw) (i 1 yaw)).answer.fallback ≡ false
  unfolding guide guide_lost_rotor
  planner_first_lost =
      released 1 yaw
      (ap (λ (g : Guided). g.margin) (by_profile (source 1 yaw) (s 1 yaw) (i 1 yaw) lost)
      ∙ rw (level_body 1 yaw, (no_motion 1 yaw).0, no_rate 1 yaw, upright, ap (λ (h : SimplexShield). h.set) (shield_is 1 yaw), tilt_margin))
