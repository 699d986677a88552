-- What the joint tick's theorems say of an answer, on its bytes: no desired attitude, no thrust axis, and which numbers are finite. Assumes nothing.
use Rattle.std.specs.Prelude.{None}
use Rattle.laws.proofs.Prelude.{◌≡◌, refl, sym, ap, ◌∙◌, not, List, [], ◌∷◌, ℕ, T, Float, is_nan, fits, of_bits, to_bits, length}
use Rattle.words.specs.Words.{word, float, vec, flag, bits}
use Rattle.relay_math.specs.Exact.{in_range}
use Rattle.relay_traj.specs.{declared.segment.Segment3.Segment3, Governor.Running}
use Rattle.relay_geo.specs.{Vectors.Finite3, Attitude.thrust_axis_ned, Set.minus_infinity}
use Rattle.joint_tick.specs.declared.{profile.Profile.TheVariants.Whole, state.{Answer.Answer, State.State, TickInput.TickInput}, stages.Reference.Reference}
use Rattle.joint_tick.specs.Tick.{reference_at, cleaned, pick, guide_pick_follow, ticked}
use Rattle.joint_tick.proofs.{Shielding.{wanted_at, tick_margin}, TickNoAttitude.{Damped, bad_heading_tick, no_axis_tick}, AnswerFinite.answer_finite, TickClock.{tick_time, time_never_back}}
use Rattle.image.specs.{Layout.{PROFILE, YAW, TORQUE, COMMAND, TIME, PSI, MARGIN}, Parts.profile_at, Image.{fixed_at, state_at}, Inputs.input_at, Fits.F32}
use Rattle.image.proofs.{AnswerFits.{margin_fits, command_fits, torque_fits}, AnswerWords.{torque_answered, command_answered, command_words_lem, time_answered, psi_word, margin_answered, margin_word}}
use Rattle.outcome.specs.Outcomes.{Done}
use Rattle.lent_tick.{specs.{Unbroken.Unbroken, Tick.tick_from}, proofs.RowFour.unbroken_has}
use Rattle.route.{specs.{Form.form_refusal, Entry.{sample_byte_count, sample_call, on_route, reference_told}}, proofs.{Sampled.{sampled_done, told_on_route}, OneLeg.one_leg}}
use Rattle.runs.specs.{Runs.{Course, Segment, Route, Tick, tick_of, source_on, RightCourse, Right, Flies}, DemandThree.{flag_of, command_words}}
use Rattle.runs.proofs.{Shown.{done, tick_done, flag_shown}, CallsKeep.lost}

whole : (image : List ℕ) → word image PROFILE ≡ 0 → (fixed_at image).profile ≡ Whole
unfolding fixed_at profile_at
whole image e = rw e

-- what an answer then shows: flag 1, command words 0, psi a NaN, margin minus infinity
pub record Unheld (image : List ℕ) (t : Tick) : Type 0 where
  pub flag : flag_of image t ≡ 1
  pub command : command_words (tick_of image t).later.answer ≡ 0 ∷ 0 ∷ 0 ∷ []
  pub psi : word (tick_of image t).later.answer PSI ≡ 0x7fc0_0000
  pub margin : word (tick_of image t).later.answer MARGIN ≡ 0xff80_0000

module _ (image : List ℕ) (t : Tick) (a : Unbroken image) (r : Right t) where
  abbrev source : Float → Reference
  source = source_on t.course image

  abbrev s : State
  s = state_at image

  abbrev i : TickInput
  i = input_at t.input

  abbrev given : Answer
  given = (done image t).answer

  minus_word : bits minus_infinity ≡ 0xff80_0000
  unfolding to_bits
  minus_word = refl

  unheld : Damped source s i → Unheld image t
  unfolding to_bits of_bits fits
  unheld d =
      let c = command_words_lem given (command_fits source s t.input) in
      record {
        flag = flag_shown image t a r ∙ ap flag d.flag;
        command = rw (tick_done image t a r, c.0, c.1, c.2, d.command);
        psi = rw (tick_done image t a r) (psi_word given (rw d.psi tt) ∙ ap bits d.psi);
        margin = rw (tick_done image t a r) (margin_word given (rw d.margin tt) ∙ ap bits d.margin ∙ minus_word);
      }

  -- "Headings that aren't numbers": in profile 0, at a heading that is a NaN, infinite or beyond the limit, whatever the past
  pub bad_heading_on_bytes : word image PROFILE ≡ 0 → T (not (in_range (float t.input YAW))) → Unheld image t
  unfolding input_at
  bad_heading_on_bytes p far = unheld (bad_heading_tick source s i (whole image p) far)

  -- in profile 1 the same where the thrust axis refuses
  pub no_axis_on_bytes : word image PROFILE ≡ 1 → thrust_axis_ned (cleaned (wanted_at source s i)).acc ≡ None → Unheld image t
  no_axis_on_bytes p e = unheld (no_axis_tick source s i (lost image p) e)

  -- ---- "Torque and command are finite whatever comes in; the time and the margin are never NaN; only the psi word can be."

  time_fits : F32 given.time
  time_fits = rw (tick_time source s i) (time_never_back source s i (unbroken_has image a).state.time).1.holds

  pub answer_finite_on_bytes : let answer = (tick_of image t).later.answer in
      Finite3 (vec answer TORQUE) × Finite3 (vec answer COMMAND) × T (not (is_nan (float answer TIME))) × T (not (is_nan (float answer MARGIN)))
  answer_finite_on_bytes =
      let n = answer_finite source s i (unbroken_has image a).state.time in
      rw (
        tick_done image t a r,
        torque_answered given (torque_fits source s i),
        command_answered given (command_fits source s t.input),
        time_answered given time_fits,
        margin_answered given (rw (tick_margin source s i) (margin_fits source s i)),
      ) (n.torque, n.command, n.time, n.margin)

  -- ---- where the craft should be: a tick goes by the acceleration and the jerk of the sample, at its own time, of the route that it flies

  running : Running given.time
  running = rw (tick_time source s i) (time_never_back source s i (unbroken_has image a).state.time).1

  by_the_time : (next : Float → Reference) → source given.time ≡ next given.time → tick_of image t ≡ tick_from next Done image t.input t.answer
  unfolding tick_from ticked guide_pick_follow pick
  by_the_time next e = tick_done image t a r ∙ rw e

  module _ (route sample : List ℕ) (l : length sample ≡ sample_byte_count) where
    has_form : (c : Course) → RightCourse c → Flies c image route → form_refusal route ≡ Done
    has_form Segment r f = f.0
    has_form (Route own) r f = ap form_refusal (sym f) ∙ r

    as_the_route : (c : Course) → Flies c image route → source_on c image given.time ≡ on_route route given.time
    as_the_route Segment f = ap (λ (g : Segment3). reference_at g given.time) f.2 ∙ sym (one_leg route given.time running f.1)
    as_the_route (Route own) f = ap (λ (b : List ℕ). on_route b given.time) f

    pub guided_by_the_sample : Flies t.course image route
        → let told = sample_call route (float (tick_of image t).later.answer TIME) sample in
        (told.outcome ≡ Done) × (tick_of image t ≡ tick_from (λ time. reference_told told.later) Done image t.input t.answer)
    guided_by_the_sample f =
        let h = has_form t.course r.2 f in
        let e : float (tick_of image t).later.answer TIME ≡ given.time = rw (tick_done image t a r) (time_answered given time_fits) in
        let w : source given.time ≡ reference_told (sample_call route (float (tick_of image t).later.answer TIME) sample).later =
        as_the_route t.course f ∙ rw e (sym (told_on_route route sample given.time h l)) in
        (rw (e, sampled_done route sample given.time h l), by_the_time _ w)
