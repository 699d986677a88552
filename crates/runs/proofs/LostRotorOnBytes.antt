-- Request Six on bytes: ticks of either kind on an image whose profile's word is 1, and what is refused. Assumes nothing.
use Rattle.std.specs.Prelude.{Err}
use Rattle.laws.proofs.Prelude.{◌≡◌, refl, sym, ap, ◌∙◌, Bool, true, false, not, cond, and-false, List, ℕ, ◌+◌, ne_eqb, Float, of_bits, to_bits, length}
use lib.Ieee.Bits.{of_bits-fits}
use Rattle.words.specs.Words.{word, float, vec, flag, bits}
use Rattle.relay_math.specs.F32.{0·0}
use Rattle.relay_adrc.specs.Biquad.{passes_through}
use Rattle.joint_tick.specs.{declared.{state.{State.State, TickInput.TickInput}, stages.Ticked.Ticked}, Profile.is_profile, SetUp.set_up, Tick.{reference_at, ticked, state_after}}
use Rattle.joint_tick.proofs.LostRotor.{headed, heading_unread, third_stands, third_command_zero}
use Rattle.outcome.specs.{declared.Refusal.TheVariants.{ImageLength, BrokenImage, BadProfile, PassThrough}, Outcomes.{Outcome, Done, left_unless, lent, Called}}
use Rattle.image.specs.{Layout.{COUNT, PROFILE, image_words, image_bytes, setup_fc, setup_fs, setup_profile, setup_bytes, YAW, yaw_rate_word, input_bytes, TORQUE, COMMAND, answer_bytes}, Parts.quat_at}
use Rattle.image.{specs.{Image.{state_at, image_of}, Inputs.{setup_at, input_at, answer_of}, Fits.F32}, proofs.{Decoded.decode_encode, AnswerWords.{third_torque_word, command_words_lem}}}
use Rattle.image.proofs.AnswerFits.{command_fits}
use Rattle.lent_tick.{specs.{Unbroken.{unbroken, Unbroken}, Tick.{tick_refusal, tick_from}}, proofs.NeverRefused.set_up_fits}
use Rattle.calls.{specs.{Entry.set_up_refusal, Shams.{level_set_up_by, headed_input}}, proofs.Level.planner_first_lost}
use Rattle.runs.specs.{Runs.{Course, Tick, flying, tick_of, source_on, start, Right}, DemandThree.flag_of, Shams.plain, LostRotor.ButHeading}
use Rattle.runs.proofs.{Shown.{refusal_on, flying_is, done, tick_done, flag_shown}, Induction.start_unbroken, CallsKeep.lost}

-- ---- "yaw isn't read"

same_but_heading : (a b : List ℕ) → ButHeading a b → input_at b ≡ headed (input_at a) (float b YAW) (float b yaw_rate_word)
unfolding input_at vec quat_at float
same_but_heading a b d =
    let w = d.words in
    rw (w 0 refl, w 1 refl, w 2 refl, w 3 refl, w 4 refl, w 5 refl, w 6 refl, w 7 refl, w 10 refl, w 11 refl, w 12 refl, w 13 refl, w 14 refl, w 15 refl, w 16 refl)

-- two inputs that differ in yaw and yaw rate alone: the same outcome, the same image, the same answer
pub heading_unread_on_bytes : (c : Course) (image a b answer : List ℕ) → word image PROFILE ≡ 1 → ButHeading a b → flying c image b answer ≡ flying c image a answer
unfolding tick_from
heading_unread_on_bytes c image a b answer p d =
    let source = source_on c image in let s = state_at image in
    let i = headed (input_at a) (float b YAW) (float b yaw_rate_word) in
    let u = heading_unread source s (input_at a) (lost image p) (float b YAW) (float b yaw_rate_word) in
    flying_is c image b answer
    ∙ ap (λ (n : ℕ). tick_from source (refusal_on c image n (length answer)) image b answer) (sym d.lengths)
    ∙ ap (λ (x : TickInput). left (state_after source s x) (ticked source s x)) (same_but_heading a b d)
    ∙ ap (λ (next : State). left next (ticked source s i)) u.1
    ∙ ap (λ (t : Ticked). left (state_after source s (input_at a)) t) u.0
    ∙ sym (flying_is c image a answer)
  where
    left : State → Ticked → Called
    left next t = left_unless (refusal_on c image (length a) (length answer)) (lent (image_of next) (answer_of t.answer)) (lent image answer)

-- ---- the third torque and the third command are +0.0, word 00000000

zero_word : {x : Float} → x ≡ 0·0 → bits x ≡ 0
unfolding of_bits to_bits
zero_word e = rw e

zero_fits : {x : Float} → x ≡ 0·0 → F32 x
zero_fits e = rw e (of_bits-fits _ _)

pub thirds_zero : (image : List ℕ) (t : Tick) → Unbroken image → Right t → word image PROFILE ≡ 1
    → let answer = (tick_of image t).later.answer in (word answer (TORQUE + 2) ≡ 0) × (word answer (COMMAND + 2) ≡ 0)
thirds_zero image t a r p =
    let source = source_on t.course image in
    let torque = (third_stands source (state_at image) (input_at t.input) (lost image p)).1 in
    let command = third_command_zero source (state_at image) (input_at t.input) (lost image p) in
    let given = (done image t).answer in
    rw (tick_done image t a r)
    (third_torque_word given (zero_fits torque) ∙ zero_word torque, (command_words_lem given (command_fits source (state_at image) t.input)).2 ∙ zero_word command)

-- ---- "a heading that is no number does not take control from the planner": set up so, it flies at the very first tick, whatever the heading's word

abbrev fresh : State
fresh = set_up (setup_at (level_set_up_by 1))

pub planner_flies_unheaded : (yaw : ℕ) → flag_of (start (level_set_up_by 1)) (plain (headed_input yaw)) ≡ 0
unfolding start
planner_flies_unheaded yaw =
    flag_shown (start (level_set_up_by 1)) (plain (headed_input yaw)) (start_unbroken (level_set_up_by 1)) (refl, refl, tt)
    ∙ ap (λ (t : State). flag (ticked (reference_at t.fixed.segment) t (input_at (headed_input yaw))).answer.fallback) (decode_encode fresh (set_up_fits (level_set_up_by 1)))
    ∙ ap flag (planner_first_lost yaw)

-- ---- what is refused

-- "10 set-up word 51 not 0 or 1, after 2", and before 11, which proofs/Gyro.antt is about
pub ten_exactly : (input : List ℕ) → length input ≡ setup_bytes
    → set_up_refusal image_bytes input ≡ cond (is_profile (word input setup_profile)) (cond (passes_through (float input setup_fc) (float input setup_fs)) (Err PassThrough) Done) (Err BadProfile)
unfolding set_up_refusal
ten_exactly input e = rw e (by (is_profile (word input setup_profile)) (cond (passes_through (float input setup_fc) (float input setup_fs)) (Err PassThrough) Done))
  where
    by : (b : Bool) (o : Outcome) → cond (not b) (Err BadProfile) o ≡ cond b o (Err BadProfile)
    by true o = refl
    by false o = refl

-- "Old images get 1", and 4 in the new length: by any other length and any other count
pub other_length_refused : (image : List ℕ) (inputLen answerLen : ℕ) → ¬ (length image ≡ image_bytes) → tick_refusal image inputLen answerLen ≡ Err ImageLength
unfolding tick_refusal
other_length_refused image inputLen answerLen d = rw (ne_eqb (length image) image_bytes d)

pub other_count_refused : (image : List ℕ) → length image ≡ image_bytes → ¬ (word image COUNT ≡ image_words) → tick_refusal image input_bytes answer_bytes ≡ Err BrokenImage
unfolding tick_refusal unbroken
other_count_refused image e d = rw (e, ne_eqb (word image COUNT) image_words d)

-- "a tick finds a bad word 95 under 4"
pub bad_profile_refused : (image : List ℕ) → length image ≡ image_bytes → is_profile (word image PROFILE) ≡ false → tick_refusal image input_bytes answer_bytes ≡ Err BrokenImage
unfolding tick_refusal unbroken
bad_profile_refused image e p = simp (e, p, and-false)
