-- The governor's time over a tick, and the two rules for dt. Assumes nothing.
use Rattle.laws.proofs.Prelude.{◌≡◌, refl, false, T, Float, lt, le, eq, of_bits}
use Rattle.relay_math.specs.{F32.{0·0, 1e-3, is_finite, finite_above}, declared.BodyRate.BodyRate}
use Rattle.relay_adrc.specs.{declared.{axis.AdrcAxis.AdrcAxis, rate.AdrcRate.AdrcRate}, Axis.axis_tick}
use Rattle.relay_traj.{specs.Governor.{advance, Running}, proofs.GovernorClock.{clock_never_back, no_dt_keeps_number}}
use Rattle.joint_tick.specs.declared.{profile.Profile.{Profile, TheVariants.{Whole, LostRotor}}, state.{State.State, TickInput.TickInput}, stages.Reference.Reference}
use Rattle.joint_tick.specs.Tick.{fractions, prepare, tick_third, follow, pick, guide_pick_follow, ticked, state_after}

axis_by_1ms : (a : AdrcAxis) (measured wanted dt : Float) → is_finite dt ≡ false → axis_tick a measured wanted dt ≡ axis_tick a measured wanted 1e-3
unfolding axis_tick is_finite lt of_bits
axis_by_1ms a measured wanted dt e = rw e

third_by_1ms : (p : Profile) (a : AdrcAxis) (measured wanted dt : Float) → is_finite dt ≡ false → tick_third p a measured wanted dt ≡ tick_third p a measured wanted 1e-3
third_by_1ms Whole a measured wanted dt e = axis_by_1ms a measured wanted dt e
third_by_1ms LostRotor a measured wanted dt e = refl

rate_by_1ms : (p : Profile) (r : AdrcRate) (measured wanted : BodyRate) (dt : Float) → is_finite dt ≡ false → follow p r measured wanted dt ≡ follow p r measured wanted 1e-3
unfolding follow
rate_by_1ms p r m w dt e =
    rw (axis_by_1ms r.roll m.0.0 w.0.0 dt e, axis_by_1ms r.pitch m.0.1 w.0.1 dt e, third_by_1ms p r.yaw m.0.2 w.0.2 dt e)

no_time : (dt : Float) → is_finite dt ≡ false → finite_above 0·0 dt ≡ false
no_time dt e = rw e

module _ (source : Float → Reference) (s : State) (i : TickInput) where
  -- the time word is the time after the advance, which the state keeps
  pub tick_time : (ticked source s i).answer.time ≡ (state_after source s i).moving.governor.s
  unfolding ticked prepare guide_pick_follow pick advance
  tick_time = refl

  -- "Its time never decreases between resets and is never NaN; it may reach +infinity."
  pub time_never_back : Running s.moving.governor.s
      → T (le s.moving.governor.s (state_after source s i).moving.governor.s) × Running (state_after source s i).moving.governor.s
  unfolding ticked prepare guide_pick_follow pick advance
  time_never_back r = clock_never_back s.moving.governor i.track_err i.dt r

  -- "a NaN dt moves ADRC by 1 ms and the governor by nothing"; so does an infinite one.
  pub one_dt_two_rules : is_finite i.dt ≡ false → Running s.moving.governor.s
      → T (eq s.moving.governor.s (state_after source s i).moving.governor.s)
      × ((ticked source s i).rate ≡ (follow s.fixed.profile (fractions s.fixed.profile s.moving.rate i.fraction) (prepare s.fixed.profile s.moving i).rate
      (ticked source s i).answer.command 1e-3).rate)
  unfolding ticked prepare guide_pick_follow pick advance
  one_dt_two_rules e r = (no_dt_keeps_number s.moving.governor i.track_err i.dt (no_time i.dt e) r, rw (rate_by_1ms _ _ _ _ i.dt e))
