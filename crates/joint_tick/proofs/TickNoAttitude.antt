-- A tick with no desired attitude, by the old rules: in free fall, and at a heading that is no number, infinite or beyond the limit. Assumes nothing.
use Rattle.std.specs.Prelude.{Option, None}
use Rattle.laws.proofs.Prelude.{◌≡◌, refl, ◌∙◌, ap, Bool, true, false, not, cond, T, Float, nan, of_bits}
use Rattle.relay_math.specs.{F32.{0·0, is_finite}, Exact.in_range, declared.{Vec3.Vec3, BodyRate.BodyRate}}
use Rattle.relay_geo.specs.{declared.{controller.GeoGains.GeoGains, set.RecoverableSet.RecoverableSet}, Vectors.{norm, sanitise3}}
use Rattle.relay_geo.{specs.{Attitude.{thrust_force, thrust_axis_ned, thrust_attitude, too_weak, flatness_omega_ff}, Inner.{thrust_of, feedforward_on}, Set.minus_infinity}, proofs.Accepts.feedforward_shares}
use Rattle.relay_geo.proofs.NoAttitude.{bad_heading_none}
use Rattle.latch.specs.Latch.{latch}
use Rattle.joint_tick.specs.declared.{profile.Profile.TheVariants.{Whole, LostRotor}, state.{State.State, TickInput.TickInput}, stages.{Reference.Reference, Guided.Guided}}
use Rattle.joint_tick.specs.Tick.{cleaned, desired_r, planner_of, guide_whole, guide_lost_rotor, guide, guidance, ticked}
use Rattle.joint_tick.proofs.{Once.one_attitude, Shielding.{filtered, wanted_at, by_profile, tick_latch, tick_margin, tick_psi, tick_fallback}}

abbrev zeros : BodyRate
zeros = record { 0 = (0·0, 0·0, 0·0) }

-- the feedforward "takes an R_d and there is none"
no_feedforward : (a j : Vec3) (yaw yawRate : Float) → thrust_attitude a yaw ≡ None → flatness_omega_ff a j yaw yawRate ≡ None
unfolding feedforward_on thrust_of
no_feedforward a j yaw yawRate e = rw (feedforward_shares a j yaw yawRate, e) (either (too_weak (norm (thrust_force a))))
  where
    either : (b : Bool) → ◌≡◌ {A = Option BodyRate} (cond b None None) None
    either true = refl
    either false = refl

-- "If there is no R_d the margin is minus infinity and the psi word NaN." The fallback is then three +0.0.
pub no_attitude : (gains : GeoGains) (set : RecoverableSet) (w : BodyRate) (wanted : Reference) (i : TickInput)
    → desired_r wanted i ≡ None
    → guide_whole gains set w wanted i ≡ record { fallback = zeros; psi = nan; margin = minus_infinity; planner = planner_of Whole i.agile }
unfolding guide_whole
no_attitude gains set w wanted i e =
    let c = cleaned wanted in
    rw (one_attitude gains i.quat wanted.acc i.yaw, no_feedforward c.acc c.jerk i.yaw i.yaw_rate e, e)

-- minus infinity engages, whatever the thresholds
unknown_engages : (enter exit : Float) (b : Bool) → latch enter exit b minus_infinity ≡ true
unfolding latch is_finite
unknown_engages enter exit true = refl
unknown_engages enter exit false = refl

clean_zeros : sanitise3 zeros.0 ≡ zeros.0
unfolding is_finite of_bits
clean_zeros = refl

-- So the flag names the fallback, and the command is three +0.0.
pub record Damped (source : Float → Reference) (s : State) (i : TickInput) : Type 0 where
  pub margin : (ticked source s i).answer.margin ≡ minus_infinity
  pub psi : (ticked source s i).answer.psi ≡ nan
  pub flag : (ticked source s i).answer.fallback ≡ true
  pub command : (ticked source s i).answer.command ≡ zeros

module _ (source : Float → Reference) (s : State) (i : TickInput) where
  -- by whichever profile
  damped : (planner : BodyRate) → guidance source s i ≡ record { fallback = zeros; psi = nan; margin = minus_infinity; planner = planner } → Damped source s i
  damped planner g =
      let m = tick_margin source s i ∙ ap (λ (x : Guided). x.margin) g in
      let f : (ticked source s i).answer.fallback ≡ true =
      tick_latch source s i ∙ rw (ap (λ (x : Guided). x.margin) g) (unknown_engages s.fixed.enter s.fixed.exit s.moving.engaged) in
      record { margin = m; psi = tick_psi source s i ∙ ap (λ (x : Guided). x.psi) g; flag = f; command = tick_fallback source s i f ∙ rw (ap (λ (x : Guided). x.fallback) g, clean_zeros) }

  pub no_attitude_tick : s.fixed.profile ≡ Whole → desired_r (wanted_at source s i) i ≡ None → Damped source s i
  unfolding guide
  no_attitude_tick p e =
      damped (planner_of Whole i.agile)
      (by_profile source s i p ∙ no_attitude s.fixed.gains s.fixed.set (filtered source s i) (wanted_at source s i) i e)

  -- "A non-finite yaw makes the heading vector zero", and so does one beyond the limit: whatever the segment asks for.
  pub bad_heading_tick : s.fixed.profile ≡ Whole → T (not (in_range i.yaw)) → Damped source s i
  bad_heading_tick p far = no_attitude_tick p (bad_heading_none i.yaw far (cleaned (wanted_at source s i)).acc)

  -- "Headings that aren't numbers."
  pub nan_heading_tick : s.fixed.profile ≡ Whole → i.yaw ≡ nan → Damped source s i
  unfolding in_range
  nan_heading_tick p e = bad_heading_tick p (rw e tt)

  -- With a rotor lost only a thrust axis that is refused does it.
  pub no_axis_tick : s.fixed.profile ≡ LostRotor → thrust_axis_ned (cleaned (wanted_at source s i)).acc ≡ None → Damped source s i
  unfolding guide guide_lost_rotor
  no_axis_tick p e = damped (planner_of LostRotor i.agile) (by_profile source s i p ∙ rw e)
