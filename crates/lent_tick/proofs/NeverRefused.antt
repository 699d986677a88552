-- Runs exist and go on for ever: the image that set-up writes is unbroken, and the one that an accepted tick or exchange writes. Assumes nothing.
use Rattle.laws.proofs.Prelude.{◌≡◌, true, List, ℕ, Float, le}
use lib.Ieee.Bits.{is_true}
use Rattle.words.{specs.Words.vec, proofs.WordsBack.float_fits}
use Rattle.relay_geo.{specs.Shield.new_shield, proofs.SetUp.{enter_finite_positive, fresh_in_order}}
use Rattle.relay_math.specs.F32.{1e-3, is_finite}
use Rattle.relay_traj.{specs.{Quintic.Lasts, Segment.segment}, proofs.{GovernorClock.starts_at_zero, Leg.segment_lasts}}
use Rattle.joint_tick.specs.{declared.{state.{Leg.Leg, State.State}, stages.Reference.Reference}, SetUp.{set_up, segment_of, exchange}, Tick.{ticked, prepare, pick, guide_pick_follow, state_after}}
use Rattle.joint_tick.proofs.TickClock.{time_never_back}
use Rattle.image.{specs.{Layout.setup_enter, Parts.{gains_at, set_at, leg_at, adrc_gains_at}, Image.{state_at, image_of}, Inputs.{setup_at, input_at}, Fits.StateFits}, proofs.Decoded.state_fits}
use Rattle.image.proofs.Fitting.{new_shield_fits, governor_fits, advance_fits, segment_fits, rate_new_fits, rate_fraction_fits, rate_tick_fits, gyro_new_fits, gyro_filter_fits}
use Rattle.lent_tick.specs.Unbroken.{lasts, all_last, Unbroken}
use Rattle.lent_tick.proofs.RowFour.{unbroken_has, written_unbroken}

-- ---- every state that set-up and ticks make is one of f32 values

pub set_up_fits : (b : List ℕ) → StateFits (set_up (setup_at b))
unfolding set_up setup_at segment_of gains_at vec set_at leg_at adrc_gains_at new_shield
set_up_fits b =
    let i = setup_at b in
    let h = new_shield_fits i.set i.enter i.exit (search float_fits) (search float_fits) in
    record {
      gains = search float_fits;
      set = search float_fits;
      enter = h.0;
      exit = h.1;
      segment = segment_fits _ _ _ _ _ _ _ (search float_fits) (search float_fits) (search float_fits) (search float_fits);
      governor = governor_fits _ _ _ (search float_fits) (search float_fits) (search float_fits);
      rate = rate_new_fits _ _ _ (search float_fits) (search float_fits) (search float_fits);
      lpf = gyro_new_fits _ _;
    }

-- from any source of references
pub tick_fits : (source : Float → Reference) (s : State) (b : List ℕ) → StateFits s → StateFits (state_after source s (input_at b))
unfolding ticked prepare guide_pick_follow pick input_at vec
tick_fits source s b f =
    record {
      gains = f.gains;
      set = f.set;
      enter = f.enter;
      exit = f.exit;
      segment = f.segment;
      governor = advance_fits _ _ _ f.governor;
      rate = rate_tick_fits s.fixed.profile _ _ _ _ (rate_fraction_fits s.fixed.profile _ _ f.rate (search float_fits));
      lpf = gyro_filter_fits _ _ f.lpf (search float_fits);
    }

pub exchange_fits : (s : State) (b : List ℕ) → StateFits s → StateFits (exchange s (leg_at b 0))
unfolding exchange segment_of leg_at vec
exchange_fits s b f =
    record {
      gains = f.gains;
      set = f.set;
      enter = f.enter;
      exit = f.exit;
      segment = segment_fits _ _ _ _ _ _ _ (search float_fits) (search float_fits) (search float_fits) (search float_fits);
      governor = governor_fits _ _ _ f.governor.1.0 f.governor.1.1.0 f.governor.1.1.1.0;
      rate = f.rate;
      lpf = f.lpf;
    }

-- ---- what is written is unbroken

lasts_ok : (t : Float) → Lasts t → lasts t ≡ true
lasts_ok t h = rw (is_true (is_finite t) h.0, is_true (le 1e-3 t) h.1)

-- of every leg, and so of one that is exchanged
leg_lasts : (l : Leg) → all_last (segment_of l) ≡ true
unfolding segment_of all_last
leg_lasts l =
    let g = segment l.p0 l.v0 l.a0 l.pf l.vf l.af l.t in
    let h = segment_lasts l.p0 l.v0 l.a0 l.pf l.vf l.af l.t in
    rw (lasts_ok g.0.t_end h.0, lasts_ok g.1.t_end h.1, lasts_ok g.2.t_end h.2)

-- "the image that set-up writes is never refused": from any input at all
pub set_up_never_refused : (b : List ℕ) → Unbroken (image_of (set_up (setup_at b)))
unfolding set_up new_shield
set_up_never_refused b =
    let i = setup_at b in
    written_unbroken (set_up i) (set_up_fits b)
    record {
      enter = enter_finite_positive i.enter i.exit;
      exit = fresh_in_order i.set i.enter i.exit (unfold setup_at in float_fits b setup_enter);
      time = starts_at_zero;
      lasts = leg_lasts i.leg;
    }

-- "nor the one that an accepted tick writes": whatever the input, and from any source of references
pub tick_never_refused : (source : Float → Reference) (image input : List ℕ) → Unbroken image → Unbroken (image_of (state_after source (state_at image) (input_at input)))
tick_never_refused source image input u =
    let s = state_at image in let n = (unbroken_has image u).state in
    written_unbroken (state_after source s (input_at input)) (tick_fits source s input (state_fits image))
    record { enter = n.enter; exit = n.exit; time = (time_never_back source s (input_at input) n.time).1; lasts = n.lasts }

-- nor that of an exchange, whatever the leg
pub exchange_never_refused : (image segment : List ℕ) → Unbroken image → Unbroken (image_of (exchange (state_at image) (leg_at segment 0)))
unfolding exchange
exchange_never_refused image segment u =
    let n = (unbroken_has image u).state in
    written_unbroken (exchange (state_at image) (leg_at segment 0)) (exchange_fits (state_at image) segment (state_fits image))
    record { enter = n.enter; exit = n.exit; time = starts_at_zero; lasts = leg_lasts (leg_at segment 0) }
