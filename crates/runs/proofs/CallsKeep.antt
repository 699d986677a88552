-- What calls keep: ticks of both kinds the clock, which never goes back, and ticks and exchanges the words that they do not write anew. Assumes nothing.
use Rattle.laws.proofs.Prelude.{◌≡◌, refl, sym, ap, ◌∙◌, subst, Bool, true, not, cond, List, [], ◌∷◌, ◌++◌, map, ℕ, zero, suc, ◌+◌, ◌<◌, add-zero, zero-add, arith, T, eqb, lit<, length, get_or, take}
use Rattle.laws.proofs.Prelude.{drop, Float, binary32, le, is_nan, no, not-false}
use lib.Ieee.Bits.{of_bits-fits}
use Rattle.words.{specs.Words.{word, float, canon, words_of, canons}, proofs.WordsBack.{word_back, bits_lt}}
use Rattle.relay_math.proofs.Order.{le_trans, le_refl_of}
use Rattle.relay_traj.{specs.Governor.advance, proofs.GovernorClock.never_nan}
use Rattle.relay_adrc.specs.{declared.{gains.AdrcGains.AdrcGains, axis.AdrcAxis.AdrcAxis}, Axis.axis_tick, Biquad.{biquad_filter, gyro_filter}}
use Rattle.joint_tick.specs.{declared.{profile.Profile.TheVariants.LostRotor, state.{Leg.Leg, State.State, TickInput.TickInput}, stages.Reference.Reference}, Profile.is_profile}
use Rattle.joint_tick.{specs.{SetUp.{set_up, exchange}, Tick.{prepare, follow, pick, guide_pick_follow, ticked, state_after}}, proofs.{TickKeeps.tick_keeps as gains-kept, LostRotor.third_stands}}
use Rattle.image.specs.{Layout.{image_bytes, COUNT, GOVERNOR, PROFILE, image_words, setup_profile}, Parts.{leg_at, profile_at, floats_of_adrc_gains, floats_of_axis}}
use Rattle.image.{specs.{Image.{fixed_at, state_at, words_of_state, image_of}, Inputs.{setup_at, input_at}}, proofs.Decoded.{profile_written, decode_encode}}
use Rattle.outcome.{specs.Outcomes.{number, is_done, Filled, Called}, proofs.Tables.{done_none, done_is_zero, same, either}}
use Rattle.lent_tick.{specs.{Unbroken.{unbroken, Unbroken}, Tick.{tick_table, tick_from}}, proofs.{RowFour.{profile_of_word, own_words}, NeverRefused.set_up_fits, TickLeaves.taken_unbroken}}
use Rattle.lent_tick.proofs.TickSteps.{image_runs, tick_clock}
use Rattle.calls.specs.Entry.{exchange_refusal, exchange_call}
use Rattle.route.specs.{Form.form_table, Entry.route_refusal}
use Rattle.runs.specs.Runs.{Course, Segment, Route, Tick, Call, Ticks, Exchanges, tick_of, left_by, source_on, start, image_after}
use Rattle.runs.specs.Kept.{lasting, kept_by_ticks, kept_by_exchanges, third_axis, SameWords, kept_by_call, AllKeep}
use Rattle.runs.proofs.{Shown.{refusal_on, flying_is}, Induction.{call_steps, start_unbroken}}

one : (image : List ℕ) (t : Tick) → Unbroken image → T (le (float image GOVERNOR) (float (left_by image (Ticks t)) GOVERNOR))
unfolding left_by
one image t a =
    subst (λ (c : Called). T (le (float image GOVERNOR) (float c.later.image GOVERNOR))) (sym (flying_is t.course image t.input t.answer))
    (tick_clock (source_on t.course image) (refusal_on t.course image (length t.input) (length t.answer)) image t.input t.answer a)

-- "the governor's time word never decreases and is never NaN along any run": over any number of ticks of both kinds, with any inputs
pub clock_over_any_run : (image : List ℕ) (ticks : List Tick) → Unbroken image
    → let later = image_after image (map Ticks ticks) in
    T (le (float image GOVERNOR) (float later GOVERNOR)) × T (not (is_nan (float later GOVERNOR)))
unfolding image_after
clock_over_any_run image [] a = (le_refl_of _ (never_nan (image_runs image a)), never_nan (image_runs image a))
clock_over_any_run image (t ∷ more) a =
    let r = clock_over_any_run (left_by image (Ticks t)) more (call_steps image (Ticks t) a).unbroken in
    (le_trans (float image GOVERNOR) (float (left_by image (Ticks t)) GOVERNOR) _ (one image t a) r.0, r.1)

-- ---- words by their numbers: two lists whose words are the same where a test of the number holds, and zeros elsewhere

abbrev masked : (ℕ → Bool) → ℕ → List ℕ → List ℕ
masked these i [] = []
masked these i (w ∷ ws) = cond (these i) w 0 ∷ masked these (suc i) ws

masked_at : (these : ℕ → Bool) (i : ℕ) (a b : List ℕ) → masked these i a ≡ masked these i b → (k : ℕ) → these (i + k) ≡ true → get_or a k 0 ≡ get_or b k 0
masked_at these i [] [] e k h = refl
masked_at these i [] (y ∷ b) e k h = absurd (omega (arith, ap length e))
masked_at these i (x ∷ a) [] e k h = absurd (omega (arith, ap length e))
masked_at these i (x ∷ a) (y ∷ b) e zero h = rw (← add-zero i, h) at (ap (λ (l : List ℕ). get_or l 0 0) e)
masked_at these i (x ∷ a) (y ∷ b) e (suc k) h =
    let n : i + suc k ≡ suc i + k = omega arith in
    masked_at these (suc i) a b (ap (drop 1) e) k (rw n at h)

-- ---- what is read is written again: all words of an image that ticks take, a NaN made 7fc00000

-- word i of canonical words
canons_at : (b : List ℕ) (k n i : ℕ) → i < n → get_or (canons b k n) i 0 ≡ canon (word b (k + i))
canons_at b k zero i h = absurd (omega arith)
canons_at b k (suc n) zero h = rw add-zero
canons_at b k (suc n) (suc i) h =
    let e : k + suc i ≡ suc k + i = omega arith in
    rw e (canons_at b (suc k) n i (omega arith))

read_again : (image : List ℕ) → Unbroken image → words_of_state (state_at image) ≡ canons image COUNT image_words
read_again image a = sym (own_words image a).is

kept_at : (these : ℕ → Bool) (image : List ℕ) (s : State) → Unbroken image → masked these 0 (words_of_state s) ≡ masked these 0 (words_of_state (state_at image)) → SameWords these image (image_of s)
unfolding image_of
kept_at these image s a e k h t =
    let z = zero-add k in
    word_back {ws = words_of_state s} record { is = refl } k
    (masked_at these 0 (words_of_state s) (words_of_state (state_at image)) e k (rw z t) ∙ ap (λ (ws : List ℕ). get_or ws k 0) (read_again image a)
    ∙ rw z at (canons_at image COUNT image_words k h))
    (bits_lt _ (of_bits-fits binary32 (word image k)))

-- ---- the words that ticks keep, from any source of references

state_keeps : (source : Float → Reference) (s : State) (i : TickInput) → masked kept_by_ticks 0 (words_of_state (state_after source s i)) ≡ masked kept_by_ticks 0 (words_of_state s)
unfolding prepare advance ticked guide_pick_follow pick follow axis_tick gyro_filter biquad_filter
state_keeps source s i =
    let ws = words_of_state s in
    ap (λ (g : AdrcGains). masked kept_by_ticks 0 (take 64 ws ++ words_of (floats_of_adrc_gains g) ++ drop 68 ws)) (gains-kept source s i).yaw

tick_keeps : (source : Float → Reference) (image input : List ℕ) → Unbroken image → SameWords kept_by_ticks image (image_of (state_after source (state_at image) (input_at input)))
tick_keeps source image input a = kept_at kept_by_ticks image (state_after source (state_at image) (input_at input)) a (state_keeps source (state_at image) (input_at input))

-- an image whose profile's word is 1
pub lost : (image : List ℕ) → word image PROFILE ≡ 1 → (fixed_at image).profile ≡ LostRotor
unfolding fixed_at profile_at
lost image e = rw e

third_keeps : (source : Float → Reference) (image input : List ℕ) → Unbroken image → word image PROFILE ≡ 1
    → SameWords third_axis image (image_of (state_after source (state_at image) (input_at input)))
third_keeps source image input a p =
    let ws = words_of_state (state_at image) in
    kept_at third_axis image (state_after source (state_at image) (input_at input)) a
    (ap (λ (x : AdrcAxis). masked third_axis 0 (take 59 ws ++ words_of (floats_of_axis x) ++ drop 68 ws)) (third_stands source (state_at image) (input_at input) (lost image p)).0)

-- a tick that is not refused was handed an unbroken image
taken_on : (c : Course) (image : List ℕ) (inputLen answerLen : ℕ) → is_done (refusal_on c image inputLen answerLen) ≡ true → Unbroken image
unfolding route_refusal
taken_on Segment image inputLen answerLen e = (taken_unbroken image inputLen answerLen e).0
taken_on (Route route) image inputLen answerLen e =
    let t = done_none (tick_table image inputLen answerLen ++ form_table route) e in
    record { whole = same (length image) image_bytes (t 0); row_four_lem = not-false (unbroken image) (t 3) }

-- what an accepted tick of either kind leaves, so far as these words go
module _ (image : List ℕ) (t : Tick) (done : number (tick_of image t).outcome ≡ 0) where
  abbrev left_now : List ℕ
  left_now = image_of (state_after (source_on t.course image) (state_at image) (input_at t.input))

  accepted_keeps : (these : ℕ → Bool) → (Unbroken image → SameWords these image left_now) → SameWords these image (tick_of image t).later.image
  unfolding tick_from
  accepted_keeps these kept =
      let o = refusal_on t.course image (length t.input) (length t.answer) in
      subst (λ (c : Called). number c.outcome ≡ 0 → SameWords these image c.later.image) (sym (flying_is t.course image t.input t.answer))
      (either (λ (c : Called). number c.outcome ≡ 0 → SameWords these image c.later.image) o
      (λ e z. kept (taken_on t.course image _ _ e))
      (λ e z. no (sym e ∙ done_is_zero o ∙ ap (λ (x : ℕ). eqb x 0) z))) done

  -- "words 0 to 14 and 17 to 40 are kept", and ADRC's gains, the filters' coefficients, the profile and the peaks: each is the word before, a NaN made 7fc00000
  pub words_kept : SameWords kept_by_ticks image (tick_of image t).later.image
  words_kept = accepted_keeps kept_by_ticks (tick_keeps (source_on t.course image) image t.input)

  -- with a rotor lost all nine words of ADRC's third axis, 59 to 67, are kept too
  pub third_axis_kept : word image PROFILE ≡ 1 → SameWords third_axis image (tick_of image t).later.image
  third_axis_kept p = accepted_keeps third_axis (λ a. third_keeps (source_on t.course image) image t.input a p)

-- ---- the words that an exchange keeps

exchanged_keeps : (s : State) (l : Leg) → masked kept_by_exchanges 0 (words_of_state (exchange s l)) ≡ masked kept_by_exchanges 0 (words_of_state s)
unfolding exchange
exchanged_keeps s l = refl

pub exchange_same : (image segment : List ℕ) → Unbroken image → SameWords kept_by_exchanges image (image_of (exchange (state_at image) (leg_at segment 0)))
exchange_same image segment a = kept_at kept_by_exchanges image (exchange (state_at image) (leg_at segment 0)) a (exchanged_keeps (state_at image) (leg_at segment 0))

-- ---- over runs: what set-up wrote has no other NaN, so that these words do not change by a bit

one_keeps : (image : List ℕ) (c : Call) → Unbroken image → (k : ℕ) → k < image_words → kept_by_call c k ≡ true → canon (word image k) ≡ word image k → word (left_by image c) k ≡ word image k
unfolding left_by tick_from exchange_call
one_keeps image (Ticks t) a k h w e =
    subst (λ (c : Called). word c.later.image k ≡ word image k) (sym (flying_is t.course image t.input t.answer))
    (either (λ (c : Called). word c.later.image k ≡ word image k) (refusal_on t.course image (length t.input) (length t.answer))
    (λ d. tick_keeps (source_on t.course image) image t.input a k h w ∙ e) (λ d. refl))
one_keeps image (Exchanges segment) a k h w e =
    either (λ (l : Filled). word l.later k ≡ word image k) (exchange_refusal image (length segment)) (λ d. exchange_same image segment a k h w ∙ e) (λ d. refl)

run_keeps : (image : List ℕ) (calls : List Call) → Unbroken image → (k : ℕ) → k < image_words → AllKeep calls k → canon (word image k) ≡ word image k
    → word (image_after image calls) k ≡ word image k
unfolding image_after
run_keeps image [] a k h w e = refl
run_keeps image (c ∷ calls) a k h w e =
    let one = one_keeps image c a k h w.0 e in
    run_keeps (left_by image c) calls (call_steps image c a).unbroken k h w.1 (rw one e) ∙ one

-- words that every call of the run keeps are set-up's ..
pub words_kept_over_any_run : (setup : List ℕ) (calls : List Call) (k : ℕ) → k < image_words → AllKeep calls k → word (image_after (start setup) calls) k ≡ word (start setup) k
unfolding start
words_kept_over_any_run setup calls k h all =
    let s = set_up (setup_at setup) in
    let same = ap image_of (decode_encode s (set_up_fits setup)) in
    let canonical = kept_at (λ _. true) (image_of s) (state_at (image_of s)) (start_unbroken setup) refl k h refl in
    run_keeps (image_of s) calls (start_unbroken setup) k h all (sym canonical ∙ ap (λ (b : List ℕ). word b k) same)

-- .. so those of any run at all, with whatever exchanges, and of a run of ticks alone the segment and its peaks too
pub all_keep_lasting : (k : ℕ) → lasting k ≡ true → (calls : List Call) → AllKeep calls k
all_keep_lasting k w [] = tt
all_keep_lasting k w (Ticks t ∷ calls) = (rw w, all_keep_lasting k w calls)
all_keep_lasting k w (Exchanges segment ∷ calls) = (rw w, all_keep_lasting k w calls)

pub all_keep_ticking : (k : ℕ) → kept_by_ticks k ≡ true → (ticks : List Tick) → AllKeep (map Ticks ticks) k
all_keep_ticking k w [] = tt
all_keep_ticking k w (t ∷ ticks) = (w, all_keep_ticking k w ticks)

-- "The profile never changes over any run": it is the 51st word that set-up was given.
pub profile_over_any_run : (setup : List ℕ) (calls : List Call) → is_profile (word setup setup_profile) ≡ true
    → word (image_after (start setup) calls) PROFILE ≡ word setup setup_profile
unfolding start set_up setup_at profile_at
profile_over_any_run setup calls p =
    words_kept_over_any_run setup calls PROFILE (lit< tt) (all_keep_lasting PROFILE refl calls)
    ∙ profile_written (set_up (setup_at setup)) ∙ sym (profile_of_word (word setup setup_profile) p)
