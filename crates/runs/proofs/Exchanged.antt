-- Request Seven on bytes: runs in which the segment is exchanged. Assumes nothing.
use Rattle.laws.proofs.Prelude.{◌≡◌, refl, sym, ap, ◌∙◌, subst, not, List, [], ◌∷◌, ◌++◌, map, ℕ, ◌+◌, T, le, is_nan, of_bits, to_bits, length}
use Rattle.words.{specs.Words.{word, float, bits, flag}, proofs.WordsBack.bits_back}
use Rattle.latch.specs.Latch.{after}
use Rattle.relay_math.specs.F32.{0·0}
use Rattle.relay_geo.specs.declared.shield.SimplexShield.{SimplexShield}
use Rattle.relay_traj.proofs.GovernorClock.{starts_at_zero}
use Rattle.joint_tick.specs.SetUp.{segment_of, set_up, exchange}
use Rattle.outcome.specs.{Outcomes.{Done, left, Filled}}
use Rattle.image.specs.{Layout.{ENGAGED, GOVERNOR, SEGMENT, PEAKS, leg_bytes, setup_leg}, Parts.{segment_at, leg_at}, Image.{state_at, image_of, peaks_of}, Inputs.setup_at}
use Rattle.image.proofs.Decoded.{image_is, segment_written, state_fits}
use Rattle.lent_tick.{specs.Unbroken.Unbroken, proofs.{RowFour.unbroken_has, NeverRefused.{set_up_fits, exchange_fits}}}
use Rattle.calls.{specs.Entry.{exchange_refusal, exchange_call}, proofs.ExchangeSteps.exchange_steps}
use Rattle.runs.specs.{Runs.{Tick, Call, Ticks, Exchanges, tick_of, left_by, guided, start, image_after, Right}, DemandThree.{enter_of, exit_of, flag_of, InBand}, Kept.{kept_by_exchanges, SameWords}}
use Rattle.runs.proofs.{Induction.{call_steps, ran}, Middle.{in_band_as_before, flag_kept}, CallsKeep.{clock_over_any_run, exchange_same}}

-- "They always equal the value worked out from the stored coefficients": after any run of set-up, ticks, route ticks and exchanges, by their bits.
pub peaks_over_any_run : (setup : List ℕ) (calls : List Call)
    → let image = image_after (start setup) calls in
    let p = peaks_of image in
    (word image PEAKS ≡ bits p.0) × (word image (PEAKS + 1) ≡ bits p.1) × (word image (PEAKS + 2) ≡ bits p.2)
peaks_over_any_run setup calls = (unbroken_has (image_after (start setup) calls) (ran setup calls).unbroken).peaks

-- "The time never decreases between exchanges", and is never NaN: after any calls, over any number of ticks of both kinds.
pub clock_between_exchanges : (setup : List ℕ) (calls : List Call) (ticks : List Tick)
    → let image = image_after (start setup) calls in
    let later = image_after image (map Ticks ticks) in
    T (le (float image GOVERNOR) (float later GOVERNOR)) × T (not (is_nan (float later GOVERNOR)))
clock_between_exchanges setup calls ticks = clock_over_any_run (image_after (start setup) calls) ticks (ran setup calls).unbroken

-- ---- one exchange

-- of an unbroken image, by a leg of the right length: it is accepted
pub exchange_done : (image segment : List ℕ) → Unbroken image → length segment ≡ leg_bytes
    → exchange_call image segment ≡ left Done (image_of (exchange (state_at image) (leg_at segment 0)))
unfolding exchange_call exchange_refusal
exchange_done image segment u e = rw (u.whole, e, u.row_four_lem)

module _ (image segment : List ℕ) (a : Unbroken image) (e : length segment ≡ leg_bytes) where
  abbrev later : List ℕ
  later = (exchange_call image segment).later

  -- its time is +0.0 ..
  pub time_after_exchange : word later GOVERNOR ≡ 0
  unfolding exchange of_bits to_bits
  time_after_exchange =
      ap (λ (l : Filled). word l.later GOVERNOR) (exchange_done image segment a e)
      ∙ bits_back (image_is (exchange (state_at image) (leg_at segment 0))) GOVERNOR 0·0 refl starts_at_zero.holds

  -- .. its segment is the leg's, mended as at set-up ..
  pub segment_after_exchange : segment_at later SEGMENT ≡ segment_of (leg_at segment 0)
  unfolding exchange
  segment_after_exchange =
      ap (λ (l : Filled). segment_at l.later SEGMENT) (exchange_done image segment a e)
      ∙ segment_written (exchange (state_at image) (leg_at segment 0)) (exchange_fits (state_at image) segment (state_fits image)).segment

  -- .. and every other word but the peaks is as it was, a NaN made 7fc00000.
  pub exchange_keeps : SameWords kept_by_exchanges image later
  exchange_keeps = subst (λ (l : Filled). SameWords kept_by_exchanges image l.later) (sym (exchange_done image segment a e)) (exchange_same image segment a)

-- after set-up too the segment is the leg's
pub segment_after_set_up : (setup : List ℕ) → segment_at (start setup) SEGMENT ≡ segment_of (leg_at setup setup_leg)
unfolding start set_up setup_at
segment_after_set_up setup = segment_written (set_up (setup_at setup)) (set_up_fits setup).segment

-- ---- across one: between the thresholds it changes hands no more than anything else does

then_exchanged : (image : List ℕ) (calls : List Call) (t : Tick) (segment : List ℕ)
    → image_after image (calls ++ Ticks t ∷ Exchanges segment ∷ []) ≡ (exchange_call (tick_of (image_after image calls) t).later.image segment).later
unfolding image_after left_by
then_exchanged image [] t segment = refl
then_exchanged image (c ∷ calls) t segment = then_exchanged (left_by image c) calls t segment

flag_across : (image segment : List ℕ) → Unbroken image → word (exchange_call image segment).later ENGAGED ≡ word image ENGAGED
unfolding after
flag_across image segment a =
    let s = exchange_steps image segment a in
    (unbroken_has (exchange_call image segment).later s.unbroken).engaged ∙ ap (λ (h : SimplexShield). flag h.engaged) s.shield ∙ sym (unbroken_has image a).engaged

-- at a tick u after a tick t and an exchange, u's flag is t's
pub in_band_across_an_exchange : (setup : List ℕ) (calls : List Call) (t u : Tick) (segment : List ℕ) → Right t → Right u
    → let image = image_after (start setup) calls in
    let next = (exchange_call (tick_of image t).later.image segment).later in
    InBand (enter_of setup) (exit_of setup) (guided next u).margin → flag_of next u ≡ flag_of image t
unfolding left_by
in_band_across_an_exchange setup calls t u segment r q i =
    let image = image_after (start setup) calls in
    subst (λ (x : List ℕ). InBand (enter_of setup) (exit_of setup) (guided x u).margin → flag_of x u ≡ word x ENGAGED) (then_exchanged (start setup) calls t segment)
    (in_band_as_before setup (calls ++ Ticks t ∷ Exchanges segment ∷ []) u q) i
    ∙ flag_across (tick_of image t).later.image segment (call_steps image (Ticks t) (ran setup calls).unbroken).unbroken
    ∙ flag_kept setup calls t r
