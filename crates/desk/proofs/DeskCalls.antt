-- What a call on a desk leaves: a refused one leaves all as it was, and an accepted tick is the core's tick of the input that it leaves. Assumes nothing.
use Rattle.laws.proofs.Prelude.{◌≡◌, refl, sym, ap, ◌∙◌, Bool, true, false, cond, List, ℕ, eqb, length, no}
use Rattle.std.specs.Prelude.{Ok, Err}
use Rattle.outcome.{specs.{Outcomes.{Outcome, Done, is_done, differs, Left, left, lent}}, proofs.Tables.{by_test_lem, done_is_zero}}
use Rattle.image.specs.Layout.{input_bytes, answer_bytes}
use Rattle.lent_tick.{specs.{Unbroken.Unbroken, Tick.tick_refusal}, proofs.TickLeaves.unbroken_taken}
use Rattle.route.{specs.{Form.form_refusal, Entry.route_refusal}, proofs.FormRefusals.{in_their_turn, form_decides}}
use Rattle.desk.specs.{declared.entry.DeskRefusal.TheVariants.{DeskLength, SticksLength, Core}, Filters.{desk_bytes, sticks_bytes, desk_at, desk_of, desk_centre}}
use Rattle.desk.specs.Entry.{DeskOutcome, DeskDone, of_core, desk_number, desk_done, centre_call, flown_input, LentToDesk, lent_to_desk}
use Rattle.desk.specs.Entry.{DeskCourse, OnSegment, OnRoute, core_refusal, core_call, tick_refusal_at, desk_tick_call, GoodCourse}
use Rattle.desk.proofs.DeskTickLeaves.{flown_length, core_done, done_of_core}

-- 0 is the number of a call that was not refused, and of no refusal
pub desk_done_is_zero : (o : DeskOutcome) → desk_done o ≡ eqb (desk_number o) 0
desk_done_is_zero (Ok u) = refl
desk_done_is_zero (Err DeskLength) = refl
desk_done_is_zero (Err SticksLength) = refl
desk_done_is_zero (Err (Core refusal)) = done_is_zero (Err refusal)

-- the button of a desk of the right length
pub centred : (desk : List ℕ) → length desk ≡ desk_bytes → centre_call desk ≡ left DeskDone (desk_of (desk_centre (desk_at desk)))
unfolding centre_call
centred desk p = rw p

module _ (course : DeskCourse) (desk sticks image input answer : List ℕ) where
  abbrev call : Left DeskOutcome LentToDesk
  call = desk_tick_call course desk sticks image input answer

  abbrev core : Outcome
  core = core_refusal course image (length input) (length answer)

  abbrev refusal : DeskOutcome
  refusal = tick_refusal_at course (length desk) (length sticks) image (length input) (length answer)

  -- "the desk's state and every lent byte then stay"
  pub refused_changes_nothing : desk_done call.outcome ≡ false → call.later ≡ lent_to_desk desk image input answer
  unfolding desk_tick_call
  refused_changes_nothing =
      by_test_lem (λ (l : Left DeskOutcome LentToDesk). desk_done l.outcome ≡ false → l.later ≡ lent_to_desk desk image input answer) (desk_done refusal)
      (λ e f. no (sym f)) (λ e f. refl)

  -- where the desk's own lengths are right, "the core's number is handed on"
  pub core_handed_on : length desk ≡ desk_bytes → length sticks ≡ sticks_bytes → refusal ≡ of_core core
  unfolding tick_refusal_at
  core_handed_on p q = rw (p, q)

  -- an accepted tick has the right lengths, and the core's consent
  pub done_asked : desk_done refusal ≡ true → is_done core ≡ true
  unfolding tick_refusal_at
  done_asked = go (differs (length desk) desk_bytes) (differs (length sticks) sticks_bytes)
    where
      go : (a b : Bool) → desk_done (cond a (Err DeskLength) (cond b (Err SticksLength) (of_core core))) ≡ true → is_done core ≡ true
      go true b e = no e
      go false true e = no e
      go false false e = sym (done_of_core core) ∙ e

  -- "the core ticks on it so changed": an accepted desk tick is the core's tick of the input that it leaves, which is accepted too
  pub is_core_tick : desk_done call.outcome ≡ true → core_call course image call.later.input answer ≡ left Done (lent call.later.image call.later.answer)
  unfolding desk_tick_call
  is_core_tick =
      by_test_lem
      (λ (l : Left DeskOutcome LentToDesk). desk_done l.outcome ≡ true → core_call course image l.later.input answer ≡ left Done (lent l.later.image l.later.answer))
      (desk_done refusal)
      (λ e f. ap (λ (o : Outcome). left o (core_call course image flown answer).later) (core_done course image flown answer (rw (flown_length desk sticks input) (done_asked e))))
      (λ e f. no (sym e ∙ f))
    where
      flown : List ℕ
      flown = flown_input desk sticks input

  -- the input that it leaves has the length of the one that it was lent
  pub input_length : length call.later.input ≡ length input
  unfolding desk_tick_call
  input_length = by_test_lem (λ (l : Left DeskOutcome LentToDesk). length l.later.input ≡ length input) (desk_done refusal) (λ e. flown_length desk sticks input) (λ e. refl)

  tick_taken : length desk ≡ desk_bytes → length sticks ≡ sticks_bytes → Done ≡ core → call.outcome ≡ DeskDone
  unfolding desk_tick_call tick_refusal_at
  tick_taken p q c = rw (p, q, ← c)

-- with right lengths, an unbroken image and, on a route, a route of its form, a desk tick is accepted
pub tick_accepted : (course : DeskCourse) (desk sticks image input answer : List ℕ) → GoodCourse course → length desk ≡ desk_bytes → length sticks ≡ sticks_bytes → length input ≡ input_bytes
    → length answer ≡ answer_bytes → Unbroken image → (desk_tick_call course desk sticks image input answer).outcome ≡ DeskDone
tick_accepted course desk sticks image input answer g p q i a u = tick_taken course desk sticks image input answer p q (takes course g (unbroken_taken image (length input) (length answer) u i a))
  where
    takes : (course : DeskCourse) → GoodCourse course → Done ≡ tick_refusal image (length input) (length answer) → Done ≡ core_refusal course image (length input) (length answer)
    takes OnSegment g t = t
    takes (OnRoute route) g t = form_decides route (sym g) image (length input) (length answer) t

-- 15, 16, then what a desk tick on the segment is refused for (1, 2, 3, 4), and last the route's own (5, 6, 7)
pub route_last : (route : List ℕ) (deskLen sticksLen : ℕ) (image : List ℕ) (inputLen answerLen : ℕ)
    → let t = tick_refusal_at OnSegment deskLen sticksLen image inputLen answerLen in
    tick_refusal_at (OnRoute route) deskLen sticksLen image inputLen answerLen ≡ cond (desk_done t) (of_core (form_refusal route)) t
unfolding tick_refusal_at
route_last route deskLen sticksLen image inputLen answerLen = go (differs deskLen desk_bytes) (differs sticksLen sticks_bytes)
  where
    plain : Outcome
    plain = tick_refusal image inputLen answerLen

    either_core : (o : Outcome) → of_core (cond (is_done o) (form_refusal route) o) ≡ cond (desk_done (of_core o)) (of_core (form_refusal route)) (of_core o)
    either_core (Ok u) = refl
    either_core (Err x) = refl

    go : (a b : Bool) → let t = cond a (Err DeskLength) (cond b (Err SticksLength) (of_core plain)) in
        cond a (Err DeskLength) (cond b (Err SticksLength) (of_core (route_refusal image inputLen answerLen route))) ≡ cond (desk_done t) (of_core (form_refusal route)) t
    go true b = refl
    go false true = refl
    go false false = ap of_core (in_their_turn image inputLen answerLen route) ∙ either_core plain
