-- One tick of either kind on bytes: that it is accepted, and what its answer shows. Assumes nothing.
use Rattle.laws.proofs.Prelude.{◌≡◌, refl, sym, ap, ◌∙◌, ◌⊎◌, inl, inr, ◌↔◌, Bool, true, false, List, [], ◌∷◌, map, ℕ, arith, Float, of_bits, to_bits, length}
use Rattle.words.specs.Words.{word, vec, float, bits, flag, floats_of_vec, words_of}
use Rattle.relay_math.specs.declared.Vec3.{Vec3}
use Rattle.relay_geo.specs.Vectors.{sanitise3}
use Rattle.joint_tick.specs.declared.{profile.Profile.{Profile, TheVariants.{Whole, LostRotor}}, state.{TickInput.TickInput, State.State}, stages.{Reference.Reference, Ticked.Ticked}}
use Rattle.joint_tick.{specs.Tick.{planner_of, guidance, ticked, state_after}, proofs.Shielding.{tick_margin, tick_planner, tick_fallback, planner_is}}
use Rattle.image.specs.{Layout.{PROFILE, FLAG, MARGIN, input_bytes, answer_bytes}, Parts.profile_at, Image.{fixed_at, state_at, image_of}, Inputs.{input_at, answer_of}, Passed.{passed_on, planner_word}}
use Rattle.image.{specs.Fits.F32, proofs.{AnswerWords.{flag_answered, margin_answered, margin_word, command_words_lem}, AnswerFits.{margin_fits, command_fits}}}
use Rattle.outcome.specs.{Outcomes.{Outcome, Done, left, lent}}
use Rattle.lent_tick.{specs.{Unbroken.Unbroken, Tick.{tick_refusal, tick_from}}, proofs.TickLeaves.unbroken_taken}
use Rattle.calls.specs.Entry.{tick_call}
use Rattle.route.{specs.Entry.{route_refusal, route_call}, proofs.FormRefusals.in_their_turn}
use Rattle.runs.specs.{Runs.{Course, Segment, Route, Tick, flying, tick_of, source_on, guided, RightCourse, Right}, DemandThree.{planner_words, fallback_words, command_words, flag_of, Shows}}

-- ---- the planner's words, by the profile

planner_by : (p : Profile) (input : List ℕ) → words_of (floats_of_vec (planner_of p (input_at input).agile).0) ≡ map (planner_word p input) (0 ∷ 1 ∷ 2 ∷ [])
unfolding input_at vec float passed_on of_bits to_bits
planner_by Whole input = refl
planner_by LostRotor input = refl

-- ---- a flag's word

pub flag_zero : (b : Bool) → flag b ≡ 0 → b ≡ false
flag_zero true e = absurd (omega (arith, e))
flag_zero false e = refl

pub flag_one : (b : Bool) → flag b ≡ 1 → b ≡ true
flag_one true e = refl
flag_one false e = absurd (omega (arith, e))

flag_either : (b : Bool) → (flag b ≡ 0) ⊎ (flag b ≡ 1)
flag_either true = inr refl
flag_either false = inl refl

-- ---- both kinds are ticks from a source of references: another kind is a line more in each of these three

abbrev pub refusal_on : Course → List ℕ → ℕ → ℕ → Outcome
refusal_on Segment image inputLen answerLen = tick_refusal image inputLen answerLen
refusal_on (Route route) image inputLen answerLen = route_refusal image inputLen answerLen route

pub flying_is : (c : Course) (image input answer : List ℕ)
    → flying c image input answer ≡ tick_from (source_on c image) (refusal_on c image (length input) (length answer)) image input answer
unfolding flying tick_call route_call
flying_is Segment image input answer = refl
flying_is (Route route) image input answer = refl

not_refused : (c : Course) (image : List ℕ) → Unbroken image → RightCourse c → refusal_on c image input_bytes answer_bytes ≡ Done
not_refused Segment image u r = sym (unbroken_taken image input_bytes answer_bytes u refl refl)
not_refused (Route route) image u r = rw (in_their_turn, ← unbroken_taken image input_bytes answer_bytes u refl refl, r)

-- ---- what a tick does

module _ (image : List ℕ) (t : Tick) where
  abbrev source : Float → Reference
  source = source_on t.course image

  abbrev s : State
  s = state_at image

  abbrev i : TickInput
  i = input_at t.input

  abbrev pub done : Ticked
  done = ticked source s i

  abbrev answers : List ℕ
  answers = answer_of done.answer

  flag_word : word answers FLAG ≡ flag done.answer.fallback
  flag_word = flag_answered done.answer

  words_of_lem : (v : Vec3) → done.answer.command ≡ record { 0 = v } → command_words answers ≡ words_of (floats_of_vec v)
  words_of_lem v e = let w = command_words_lem done.answer (command_fits source s t.input) in rw (w.0, w.1, w.2, e)

  planner_words_lem : done.answer.fallback ≡ false → command_words answers ≡ planner_words (word image PROFILE) t.input
  unfolding fixed_at profile_at
  planner_words_lem e = words_of_lem (planner_of (fixed_at image).profile i.agile).0 (tick_planner source s i e ∙ planner_is source s i) ∙ planner_by (fixed_at image).profile t.input

  fallback_words_lem : done.answer.fallback ≡ true → command_words answers ≡ fallback_words (guided image t)
  unfolding guided
  fallback_words_lem e = words_of_lem (sanitise3 (guidance source s i).fallback.0) (tick_fallback source s i e)

  margin_shown : (word answers MARGIN ≡ bits (guided image t).margin) × (float answers MARGIN ≡ (guided image t).margin)
  unfolding guided
  margin_shown =
      let e = tick_margin source s i in
      let f : F32 done.answer.margin = rw e (margin_fits source s i) in
      (margin_word done.answer f ∙ ap bits e, margin_answered done.answer f ∙ e)

  module _ (a : Unbroken image) (r : Right t) where
    pub tick_done : tick_of image t ≡ left Done (lent (image_of (state_after source s i)) answers)
    unfolding tick_from
    tick_done = flying_is t.course image t.input t.answer ∙ rw (r.0, r.1, not_refused t.course image a r.2)

    pub flag_shown : flag_of image t ≡ flag done.answer.fallback
    flag_shown = rw tick_done flag_word

    pub shows : (Flying : Type 0) → (done.answer.fallback ≡ false) ↔ Flying → Shows Flying image t
    shows Flying f =
        let b = done.answer.fallback in
        record {
          accepted = rw tick_done;
          flag = rw flag_shown (flag_either b);
          flies = (λ e. f.0 (flag_zero b (sym flag_shown ∙ e)), λ x. flag_shown ∙ ap flag (f.1 x));
          planner = λ e. rw tick_done (planner_words_lem (flag_zero b (sym flag_shown ∙ e)));
          fallback = λ e. rw tick_done (fallback_words_lem (flag_one b (sym flag_shown ∙ e)));
          margin = rw tick_done margin_shown.0;
          margin_read = rw tick_done margin_shown.1;
        }
