-- Request Twelve on bytes: what is refused with 11, what stays of images that were set up before, and that what set-up takes is filtered. Assumes nothing.
use Rattle.std.specs.Prelude.{Err}
use Rattle.laws.proofs.Prelude.{◌≡◌, refl, sym, ap, ◌∙◌, subst, Bool, true, false, ◌&&◌, cond, List, [], ◌∷◌, ◌++◌, ℕ, ◌+◌, ◌<◌, lit<, lt, of_bits, length, no}
use Rattle.words.specs.Words.{word, float, float_of}
use Rattle.latch.specs.Latch.{Flies}
use Rattle.relay_math.specs.F32.{0·0}
use Rattle.relay_adrc.{specs.{declared.biquad.Biquad.Biquad, Biquad.{lowpass_at, lowpass, gyro_new}}, proofs.Lowpass.filters}
use Rattle.joint_tick.specs.{declared.state.State.State, Profile.is_profile, SetUp.set_up}
use Rattle.outcome.specs.{declared.Refusal.TheVariants.{BadProfile, PassThrough}, Outcomes.{Outcome, Done, is_done, Table, left, left_unless, Filled}}
use Rattle.outcome.proofs.Tables.{done_none, never_given, in_turn, either}
use Rattle.image.{specs.{Layout.{LPF, biquad_words, image_words, image_bytes, setup_profile, setup_bytes}, Parts.{biquad_at, lpf_at}, Image.moving_at, Inputs.setup_at}, proofs.Decoded.decode_encode}
use Rattle.lent_tick.{specs.{Unbroken.Unbroken, Tick.{tick_table, tick_refusal}}, proofs.NeverRefused.set_up_fits}
use Rattle.calls.specs.Entry.{set_up_table, exchange_table, set_up_refusal, exchange_refusal, SetsUp, set_up_call}
use Rattle.route.specs.{Form.form_table, Entry.route_refusal}
use Rattle.runs.specs.{Runs.{Tick, Call, guided, start, image_after, margins_along, Right}, DemandThree.{enter_of, exit_of, Shows}, Kept.lasting}
use Rattle.runs.specs.Gyro.{unfiltered, table_before, refusal_before, set_up_before, Filter, Roll, Pitch, Yaw, Passes}
use Rattle.runs.proofs.{Induction.start_unbroken, DemandThree.demand_three, CallsKeep.{words_kept_over_any_run, all_keep_lasting}, LostRotorOnBytes.ten_exactly}

-- ---- what is refused

-- "11, after 10": exactly where the routine's own condition holds
pub eleven_exactly : (setup : List ℕ) → length setup ≡ setup_bytes → is_profile (word setup setup_profile) ≡ true
    → set_up_refusal image_bytes setup ≡ cond (unfiltered setup) (Err PassThrough) Done
eleven_exactly setup e p = ten_exactly setup e ∙ ap (λ (b : Bool). cond b (cond (unfiltered setup) (Err PassThrough) Done) (Err BadProfile)) p

-- "at set-up alone"
pub no_tick_gives_eleven : (image : List ℕ) (inputLen answerLen : ℕ) → ¬ (tick_refusal image inputLen answerLen ≡ Err PassThrough)
unfolding tick_refusal
no_tick_gives_eleven image inputLen answerLen = never_given PassThrough (tick_table image inputLen answerLen) refl

pub no_route_tick_gives_eleven : (image route : List ℕ) (inputLen answerLen : ℕ) → ¬ (route_refusal image inputLen answerLen route ≡ Err PassThrough)
unfolding route_refusal
no_route_tick_gives_eleven image route inputLen answerLen = never_given PassThrough (tick_table image inputLen answerLen ++ form_table route) refl

pub no_exchange_gives_eleven : (image : List ℕ) (segmentLen : ℕ) → ¬ (exchange_refusal image segmentLen ≡ Err PassThrough)
unfolding exchange_refusal
no_exchange_gives_eleven image segmentLen = never_given PassThrough (exchange_table image segmentLen) refl

-- ---- set-up and the one of the release before differ in this alone: the number, and every byte of the image

pub as_before_but_eleven : (image setup : List ℕ)
    → set_up_call image setup ≡ cond (is_done (refusal_before (length image) setup) && unfiltered setup) (left (Err PassThrough) image) (set_up_before image setup)
unfolding set_up_call set_up_refusal set_up_before refusal_before start
as_before_but_eleven image setup =
    let more : Table = (unfiltered setup, PassThrough) ∷ [] in
    ap (λ (o : Outcome). left_unless o (start setup) image) (in_turn (table_before (length image) setup) more)
    ∙ by (refusal_before (length image) setup) (is_done (refusal_before (length image) setup)) (unfiltered setup) refl
  where
    by : (o : Outcome) (t u : Bool) → is_done o ≡ t
        → left_unless (cond t (cond u (Err PassThrough) Done) o) (start setup) image ≡ cond (t && u) (left (Err PassThrough) image) (left_unless o (start setup) image)
    by o true true e = refl
    by o true false e = rw e
    by o false u e = refl

-- ---- "Images already set up that way keep ticking"

-- What that release wrote is the image that runs start at, whatever the cut-off. So all that is said of runs, by `start` of any 51 words, is said of it.
pub started_before : (image setup : List ℕ) → (set_up_before image setup).outcome ≡ Done → (set_up_before image setup).later ≡ start setup
unfolding set_up_before
started_before image setup =
    either (λ (l : Filled). l.outcome ≡ Done → l.later ≡ start setup) (refusal_before (length image) setup)
    (λ e z. refl)
    (λ e z. no (sym e ∙ ap is_done z))

module _ (image setup : List ℕ) (e : (set_up_before image setup).outcome ≡ Done) where
  abbrev first : List ℕ
  first = (set_up_before image setup).later

  pub keeps_ticking : Unbroken first
  keeps_ticking = rw (started_before image setup e) (start_unbroken setup)

  -- "demands 2 and 3 hold on their runs as before"
  pub demand_three_as_before : (calls : List Call) (t : Tick) → Right t
      → let now = image_after first calls in
      let margins = margins_along first calls ++ (guided now t).margin ∷ [] in
      Shows (Flies (enter_of setup) (exit_of setup) margins) now t
  demand_three_as_before calls t r =
      subst (λ (b : List ℕ). let now = image_after b calls in Shows (Flies (enter_of setup) (exit_of setup) (margins_along b calls ++ (guided now t).margin ∷ [])) now t)
      (sym (started_before image setup e)) (demand_three setup calls t r)

-- ---- what set-up takes is filtered

module _ (setup : List ℕ) (taken : SetsUp setup) where
  is_filtered : unfiltered setup ≡ false
  unfolding set_up_refusal
  is_filtered = done_none (set_up_table image_bytes setup) (ap is_done taken) 3

  -- of its filter b0 and b2 are one number, where a pass-through has 1 and 0
  alike : (f : Biquad) → f ≡ lowpass (setup_at setup).fc (setup_at setup).fs → f.b0 ≡ f.b2
  unfolding setup_at lowpass_at
  alike f e = rw (e, filters (setup_at setup).fc (setup_at setup).fs is_filtered)

  stored : {k : ℕ} → Filter k → biquad_at (start setup) k ≡ lowpass (setup_at setup).fc (setup_at setup).fs
  unfolding start set_up moving_at lpf_at gyro_new
  stored Roll = ap (λ (s : State). s.moving.lpf.roll) (decode_encode (set_up (setup_at setup)) (set_up_fits setup))
  stored Pitch = ap (λ (s : State). s.moving.lpf.pitch) (decode_encode (set_up (setup_at setup)) (set_up_fits setup))
  stored Yaw = ap (λ (s : State). s.moving.lpf.yaw) (decode_encode (set_up (setup_at setup)) (set_up_fits setup))

  apart : {k : ℕ} → Filter k → word (start setup) k ≡ 0x3f80_0000 → ¬ (word (start setup) (k + 2) ≡ 0)
  unfolding biquad_at float lt of_bits
  apart {k} axis one zero =
      let f = biquad_at (start setup) k in let e : f.b0 ≡ f.b2 = alike f (stored axis) in
      no (sym (ap (λ (w : ℕ). lt 0·0 (float_of w)) zero) ∙ ap (lt 0·0) (sym e) ∙ ap (λ (w : ℕ). lt 0·0 (float_of w)) one)

  at : (calls : List Call) (k : ℕ) → k < image_words → lasting k ≡ true → word (image_after (start setup) calls) k ≡ word (start setup) k
  at calls k h w = words_kept_over_any_run setup calls k h (all_keep_lasting k w calls)

  kept : (calls : List Call) {k : ℕ} → Filter k
      → let image = image_after (start setup) calls in (word image k ≡ word (start setup) k) × (word image (k + 2) ≡ word (start setup) (k + 2))
  kept calls Roll = (at calls LPF (lit< tt) refl, at calls (LPF + 2) (lit< tt) refl)
  kept calls Pitch = (at calls (LPF + biquad_words) (lit< tt) refl, at calls (LPF + biquad_words + 2) (lit< tt) refl)
  kept calls Yaw = (at calls (LPF + biquad_words + biquad_words) (lit< tt) refl, at calls (LPF + biquad_words + biquad_words + 2) (lit< tt) refl)

  -- "Set-up no longer takes a cut-off that `Biquad::lowpass` would turn into a pass-through": no axis of the gyro is unfiltered, after any calls.
  pub always_filtered : (calls : List Call) {k : ℕ} → Filter k → ¬ (Passes (image_after (start setup) calls) k)
  always_filtered calls axis p = let w = kept calls axis in apart axis (sym w.0 ∙ p.b0) (sym w.1 ∙ p.b2)
