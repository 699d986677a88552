-- The record of one accepted tick of a run is right by the flag that the shield then has. Assumes nothing.
use Rattle.laws.proofs.Prelude.{◌≡◌, refl, sym, ap, subst, ◌∙◌, Bool, true, false, cond, List, [], ◌∷◌, ◌++◌, map, ℕ, zero, suc, ◌+◌, ◌*◌, ◌<◌, ◌≤◌, arith, eqb, binary32, length, get_or}
use Rattle.laws.proofs.Prelude.{List·getD-append}
use lib.Ieee.Bits.{is_true, of_bits-to_bits}
use Rattle.relay_math.specs.{declared.Vec3.Vec3, F32.is_finite}
use Rattle.words.{specs.Words.{word, float, float_of, bits, flag}, proofs.WordsBack.four_after}
use Rattle.latch.specs.Latch.{latch}
use Rattle.relay_geo.{specs.Vectors.Finite3, proofs.Sanitised.sanitise3_finite}
use Rattle.joint_tick.{specs.{declared.profile.Profile.{Profile, TheVariants.{Whole, LostRotor}}, Profile.{is_profile, profile_of}, Tick.guidance}, proofs.Shielding.tick_fallback}
use Rattle.image.specs.{Layout.{input_words, input_bytes, answer_bytes, AGILE, COMMAND, FLAG, MARGIN, PROFILE, setup_profile}, Image.state_at, Inputs.input_at, Passed.{passed_on, planner_word}}
use Rattle.image.{specs.Fits.FitsVec, proofs.{AnswerWords.command_words_lem, AnswerFits.command_fits}}
use Rattle.outcome.{specs.Outcomes.{is_done, first_of, Called}, proofs.Tables.{done_is, done_none, done_exactly, same, either}}
use Rattle.lent_tick.{specs.{Unbroken.Unbroken, Tick.{tick_table, tick_from}, Steps.shield_at}, proofs.TickLeaves.taken_unbroken}
use Rattle.route.specs.{Form.{form_table, form_refusal}, Entry.route_refusal}
use Rattle.runs.specs.{Runs.{Course, Segment, Route, Tick, Call, tick_of, source_on, guided, start, image_after, RightCourse, Right}, DemandThree.{enter_of, exit_of, command_words, Shows}}
use Rattle.runs.proofs.{Shown.{refusal_on, flying_is, done, tick_done, flag_shown, shows}, Induction.{ran, latched}, CallsKeep.profile_over_any_run}
use Rattle.audit.{specs.Right.{command_word, flag_word, margin_in, right}, proofs.Said.by_flag}

-- ---- words of an input with an answer behind it

word_before : (a b : List ℕ) (k : ℕ) → 4 * k + 4 ≤ length a → word (a ++ b) k ≡ word a k
unfolding word
word_before a b k h =
    let at = List·getD-append a b 0 in
    rw (at (4 * k) (omega arith), at (4 * k + 1) (omega arith), at (4 * k + 2) (omega arith), at (4 * k + 3) (omega arith))

word_behind : (a b : List ℕ) (n k : ℕ) → length a ≡ 4 * n → word (a ++ b) (n + k) ≡ word b k
unfolding word
word_behind a b n k h = let e : 4 * (n + k) ≡ length a + 4 * k = omega arith in rw e (four_after a b (4 * k))

-- ---- an accepted tick was given what it should be

given_right : (c : Course) (image : List ℕ) (inputLen answerLen : ℕ) → is_done (refusal_on c image inputLen answerLen) ≡ true
    → (inputLen ≡ input_bytes) × (answerLen ≡ answer_bytes) × RightCourse c
unfolding route_refusal form_refusal
given_right Segment image inputLen answerLen e = let t = taken_unbroken image inputLen answerLen e in (t.1, t.2, tt)
given_right (Route route) image inputLen answerLen e =
    let n = done_none (tick_table image inputLen answerLen ++ form_table route) e in
    (same inputLen input_bytes (n 1), same answerLen answer_bytes (n 2), done_is (first_of (form_table route)) ((done_exactly (form_table route)).1 (λ k. n (suc (suc (suc (suc k)))))))

pub accepted_right : (image : List ℕ) (t : Tick) → is_done (tick_of image t).outcome ≡ true → Right t
unfolding tick_from
accepted_right image t d =
    let o = refusal_on t.course image (length t.input) (length t.answer) in
    given_right t.course image (length t.input) (length t.answer)
    (subst (λ (c : Called). is_done c.outcome ≡ true → is_done o ≡ true) (sym (flying_is t.course image t.input t.answer))
    (either (λ (c : Called). is_done c.outcome ≡ true → is_done o ≡ true) o (λ e z. e) (λ e z. z)) d)

-- ---- words axis by axis, and the planner's

by_axis : (f : ℕ → ℕ) (axis : ℕ) → axis < 3 → get_or (map f (0 ∷ 1 ∷ 2 ∷ [])) axis 0 ≡ f axis
by_axis f zero h = refl
by_axis f (suc zero) h = refl
by_axis f (suc (suc zero)) h = refl
by_axis f (suc (suc (suc axis))) h = absurd (omega arith)

same_planner : (p : Profile) (b c : List ℕ) (axis : ℕ) → word b (AGILE + axis) ≡ word c (AGILE + axis) → planner_word p b axis ≡ planner_word p c axis
same_planner Whole b c axis e = ap passed_on e
same_planner LostRotor b c axis e = ap (λ (w : ℕ). cond (eqb axis 2) 0 (passed_on w)) e

three : {x x' y y' z z' : ℕ} → x ≡ x' → y ≡ y' → z ≡ z' → (x ∷ y ∷ z ∷ []) ≡ (x' ∷ y' ∷ z' ∷ [])
three a b c = rw (a, b, c)

-- ---- a finite number that was written is finite when it is read

module _ (v : Vec3) (f : FitsVec v) (n : Finite3 v) where
  finite_written : (axis : ℕ) → axis < 3 → is_finite (float_of (get_or (bits v.0 ∷ bits v.1 ∷ bits v.2 ∷ []) axis 0)) ≡ true
  finite_written zero h = rw (of_bits-to_bits binary32 v.0 f.0) (is_true _ n.x)
  finite_written (suc zero) h = rw (of_bits-to_bits binary32 v.1 f.1.0) (is_true _ n.y)
  finite_written (suc (suc zero)) h = rw (of_bits-to_bits binary32 v.2 f.1.1.0) (is_true _ n.z)
  finite_written (suc (suc (suc axis))) h = absurd (omega arith)

-- ---- one accepted tick after any calls

module _ (setup : List ℕ) (calls : List Call) (t : Tick) (p : is_profile (word setup setup_profile) ≡ true) (d : is_done (tick_of (image_after (start setup) calls) t).outcome ≡ true) where
  abbrev image : List ℕ
  image = image_after (start setup) calls

  abbrev answer : List ℕ
  answer = (tick_of image t).later.answer

  abbrev kept : List ℕ
  kept = t.input ++ answer

  a : Unbroken image
  a = (ran setup calls).unbroken

  given : Right t
  given = accepted_right image t d

  abbrev b : Bool
  b = (done image t).answer.fallback

  shown : Shows (b ≡ false) image t
  shown = shows image t a given (b ≡ false) (λ e. e, λ e. e)

  in_answer : (k : ℕ) → word kept (input_words + k) ≡ word answer k
  in_answer k = word_behind t.input answer input_words k given.0

  in_input : (k : ℕ) → k < input_words → word kept k ≡ word t.input k
  in_input k h = word_before t.input answer k (omega (arith, given.0))

  pub margin_kept : margin_in kept ≡ (guided image t).margin
  unfolding float
  margin_kept = ap float_of (in_answer MARGIN) ∙ shown.margin_read

  flag_kept : flag_word kept ≡ flag b
  flag_kept = in_answer FLAG ∙ flag_shown image t a given

  -- a command's word, by its axis
  command_kept : (axis : ℕ) → axis < 3 → command_word kept axis ≡ get_or (command_words answer) axis 0
  command_kept axis h = let e : input_words + COMMAND + axis ≡ input_words + (COMMAND + axis) = omega arith in rw e
      (in_answer (COMMAND + axis) ∙ sym (by_axis (λ (k : ℕ). word answer (COMMAND + k)) axis h))

  planner_kept : b ≡ false → (axis : ℕ) → axis < 3 → command_word kept axis ≡ planner_word (profile_of (word setup setup_profile)) kept axis
  planner_kept e axis h =
      command_kept axis h
      ∙ ap (λ (ws : List ℕ). get_or ws axis 0) (shown.planner (shown.flies.1 e)) ∙ by_axis (planner_word (profile_of (word image PROFILE)) t.input) axis h
      ∙ ap (λ (w : ℕ). planner_word (profile_of w) t.input axis) (profile_over_any_run setup calls p)
      ∙ same_planner (profile_of (word setup setup_profile)) t.input kept axis (sym (in_input (AGILE + axis) (omega arith)))

  fallback_kept : b ≡ true → (axis : ℕ) → axis < 3 → is_finite (float_of (command_word kept axis)) ≡ true
  fallback_kept e axis h =
      let source = source_on t.course image in let s = state_at image in let i = input_at t.input in
      let command = (done image t).answer.command in let f = command_fits source s t.input in
      let w = command_words_lem (done image t).answer f in
      let finite : Finite3 command.0 = rw (tick_fallback source s i e) (sanitise3_finite (guidance source s i).fallback.0) in
      let words = ap (λ (c : Called). command_words c.later.answer) (tick_done image t a given) ∙ three w.0 w.1 w.2 in
      ap (λ (w : ℕ). is_finite (float_of w)) (command_kept axis h ∙ ap (λ (ws : List ℕ). get_or ws axis 0) words) ∙ finite_written command.0 f finite axis h

  -- by the margin that it keeps and by whoever had control before
  pub right_kept : right (profile_of (word setup setup_profile)) (latch (enter_of setup) (exit_of setup) (shield_at image).engaged (margin_in kept)) kept ≡ true
  right_kept =
      rw (margin_kept, ← latched setup calls t)
      (by_flag (profile_of (word setup setup_profile)) kept b flag_kept planner_kept fallback_kept)
