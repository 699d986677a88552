-- Sham builds: a program that keeps the promises does not refuse all calls and does not leave the image untouched, by one run, at whose first tick the
-- planner gets control (specs/Shams.antt). The other two shams fall to demand 3 alone (crate `runs`, proofs/Shams.antt). Assumes nothing.
use Rattle.laws.proofs.Prelude.{◌≡◌, refl, sym, ap, ◌∙◌, Bool, true, false, List, ℕ, lt, le, mul, of_bits, length}
use native.Mathlib.Nat.{suc-ne-zero}
use Rattle.words.specs.Words.{word, float}
use Rattle.relay_geo.specs.Shield.{new_shield}
use Rattle.joint_tick.{specs.{declared.{state.State.State, stages.Ticked.Ticked}, Profile.is_profile, SetUp.set_up, Tick.{reference_at, ticked, state_after}}, proofs.Shielding.tick_keeps_flag}
use Rattle.outcome.specs.{Outcomes.{Done, left, Filled, lent, Called}}
use Rattle.image.specs.{Layout.{COUNT, ENGAGED, setup_profile, input_bytes}, Image.{state_at, image_of}, Inputs.{setup_at, input_at, answer_of}}
use Rattle.image.proofs.Decoded.{count_written, engaged_written, decode_encode}
use Rattle.lent_tick.{specs.{Unbroken.Unbroken, Tick.tick_from}, proofs.{NeverRefused.{set_up_fits, set_up_never_refused}, TickLeaves.unbroken_taken}}
use Rattle.calls.specs.Entry.{set_up_refusal, SetsUp, on_segment, set_up_call, tick_call}
use Rattle.calls.specs.Shams.{Program, Keeps, RefusesSetUps, RefusesTicks, LeavesSetUp, LeavesTicked, blank_answer, blank_image, level_set_up, level_input}
use Rattle.calls.proofs.Level.{planner_first}

-- ---- what an accepted call leaves

-- of a plain tick of an image: what comes of it, and the image that it leaves
abbrev tick : List ℕ → List ℕ → Ticked
tick image input = ticked (on_segment image) (state_at image) (input_at input)

unfoldable leaves : List ℕ → List ℕ → List ℕ
leaves image input = image_of (state_after (on_segment image) (state_at image) (input_at input))

set_up_accepted : (b : List ℕ) → SetsUp b → set_up_call blank_image b ≡ left Done (image_of (set_up (setup_at b)))
unfolding set_up_call
set_up_accepted b e = rw e

pub level_profile : is_profile (word level_set_up setup_profile) ≡ true
unfolding is_profile word
level_profile = refl

pub level_sets_up : SetsUp level_set_up
unfolding set_up_refusal is_profile word float lt le mul of_bits
level_sets_up = refl

tick_accepted : (image input : List ℕ) → Unbroken image → length input ≡ input_bytes
    → tick_call image input blank_answer ≡ left Done (lent (leaves image input) (answer_of (tick image input).answer))
unfolding tick_call tick_from leaves
tick_accepted image input u e = rw (← unbroken_taken image (length input) (length blank_answer) u e refl)

-- ---- the run

abbrev s : State
s = set_up (setup_at level_set_up)

abbrev fresh : List ℕ
fresh = image_of s

fresh_unbroken : Unbroken fresh
fresh_unbroken = set_up_never_refused level_set_up

fresh_state : state_at fresh ≡ s
fresh_state = decode_encode s (set_up_fits level_set_up)

abbrev flag_of : List ℕ → List ℕ → Bool
flag_of image input = (tick image input).answer.fallback

-- also for the two shams that fall to demand 3 alone (crate `runs`, proofs/Shams.antt)
pub planner_flies : flag_of fresh level_input ≡ false
planner_flies = ap (λ (t : State). (ticked (reference_at t.fixed.segment) t (input_at level_input)).answer.fallback) fresh_state ∙ planner_first

-- the first tick releases the fresh shield, and the image says so
engaged_before : word fresh ENGAGED ≡ 1
unfolding set_up new_shield
engaged_before = engaged_written s

released_after : word (leaves fresh level_input) ENGAGED ≡ 0
unfolding leaves
released_after =
    engaged_written (state_after (on_segment fresh) (state_at fresh) (input_at level_input))
    ∙ rw (tick_keeps_flag (on_segment fresh) (state_at fresh) (input_at level_input), planner_flies)

-- a blank image has no count of words, and a fresh one has
counted : ¬ (blank_image ≡ fresh)
unfolding word
counted e = suc-ne-zero 98 (sym (count_written s) ∙ ap (λ (b : List ℕ). word b COUNT) (sym e))

-- ---- the shams

-- there is a program that keeps the promises: what follows is not said of none
pub honest : Keeps record { set_up = set_up_call; tick = tick_call }
honest = record { set_up = λ image input. refl; tick = λ image input answer. refl }

module _ (p : Program) (k : Keeps p) where
  sets_up : p.set_up blank_image level_set_up ≡ left Done fresh
  sets_up = k.set_up blank_image level_set_up ∙ set_up_accepted level_set_up level_sets_up

  ticks : (image input : List ℕ) → Unbroken image → length input ≡ input_bytes
      → p.tick image input blank_answer ≡ left Done (lent (leaves image input) (answer_of (tick image input).answer))
  ticks image input a e = k.tick image input blank_answer ∙ tick_accepted image input a e

  -- "refusing all calls": demand 2, the table says when
  pub not_refusing_set_ups : ¬ (RefusesSetUps p)
  not_refusing_set_ups r = r.never blank_image level_set_up (ap (λ (l : Filled). l.outcome) sets_up)

  pub not_refusing_ticks : ¬ (RefusesTicks p)
  not_refusing_ticks r = r.never fresh level_input blank_answer (ap (λ (c : Called). c.outcome) (ticks fresh level_input fresh_unbroken refl))

  -- "the image untouched": demand 2, set-up writes its count, and a tick that releases the shield writes that
  pub not_leaving_set_up : ¬ (LeavesSetUp p)
  not_leaving_set_up r = counted (sym (r.always blank_image level_set_up) ∙ ap (λ (l : Filled). l.later) sets_up)

  pub not_leaving_ticked : ¬ (LeavesTicked p)
  not_leaving_ticked r =
      let same : leaves fresh level_input ≡ fresh = sym (ap (λ (c : Called). c.later.image) (ticks fresh level_input fresh_unbroken refl)) ∙ r.always fresh level_input blank_answer in
      suc-ne-zero 0 (sym engaged_before ∙ ap (λ (b : List ℕ). word b ENGAGED) (sym same) ∙ released_after)
