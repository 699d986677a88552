-- What a desk tick leaves by what its calls gave, on either course. Of the core it takes the promises and two laws: it is done unless `core_refusal` refuses,
-- and then changes nothing. Assumes nothing.
use Rattle.laws.proofs.Prelude.{◌≡◌, refl, sym, ap, ◌∙◌, Bool, true, false, cond, List, [], ◌∷◌, ℕ, suc, ◌*◌, Float, length, length-sets, no}
use Rattle.words.{specs.Words.{word, bits, bytes_of, Put}, proofs.{Written.{then, put_over}, Standing.{Bytes, word_stands}}}
use Rattle.image.specs.Layout.{YAW}
use Rattle.std.specs.Prelude.{Ok, Err}
use Rattle.outcome.{specs.Outcomes.{Outcome, Done, is_done, first_of, differs, Left, left, lent, Called}, proofs.Tables.done_is}
use Rattle.lent_tick.{specs.Tick.{lengths_table, tick_refusal, tick_from}, proofs.TickLeaves.wrong_length}
use Rattle.calls.specs.Entry.{tick_call}
use Rattle.calls.proofs.Asked
use Rattle.route.specs.Entry.{route_call}
use Rattle.route.proofs.FormRefusals
use Rattle.desk.specs.{declared.entry.DeskRefusal.TheVariants.{DeskLength, SticksLength}, Filters.{desk_bytes, sticks_bytes, desk_of}, Inner.{after_core, lengths_refusal, TicksBy}}
use Rattle.desk.specs.Entry.{DeskOutcome, DeskDone, of_core, desk_done, desk_refusal, desk_left, with_heading, moved, flown_input, LentToDesk, lent_to_desk}
use Rattle.desk.specs.Entry.{DeskCourse, OnSegment, OnRoute, core_refusal, core_call, tick_refusal_at, desk_tick_call}

-- the lent input keeps its length
pub flown_length : (desk sticks input : List ℕ) → length (flown_input desk sticks input) ≡ length input
unfolding flown_input with_heading
flown_length desk sticks input = let d = moved desk sticks input in length-sets input (4 * YAW) (bytes_of (bits d.heading.y ∷ bits d.turn.y ∷ []))

-- ---- the core, on either course

pub core_done : (course : DeskCourse) (image input answer : List ℕ)
    → is_done (core_refusal course image (length input) (length answer)) ≡ true → (core_call course image input answer).outcome ≡ Done
unfolding tick_call route_call tick_from
core_done OnSegment image input answer e = rw e
core_done (OnRoute route) image input answer e = rw e

core_keeps : (course : DeskCourse) (image input answer : List ℕ) → let r = core_refusal course image (length input) (length answer) in
    is_done r ≡ false → core_call course image input answer ≡ left r (lent image answer)
core_keeps OnSegment image input answer e = Asked.refused_changes_nothing image input answer e
core_keeps (OnRoute route) image input answer e = FormRefusals.refused_changes_nothing image input route answer e

-- what a tick is refused for, a route tick is refused for before its route is looked at
as_a_tick : (course : DeskCourse) (image : List ℕ) (inputLen answerLen : ℕ) → is_done (tick_refusal image inputLen answerLen) ≡ false
    → core_refusal course image inputLen answerLen ≡ tick_refusal image inputLen answerLen
as_a_tick OnSegment image inputLen answerLen e = refl
as_a_tick (OnRoute route) image inputLen answerLen e = FormRefusals.in_their_turn image inputLen answerLen route ∙ rw e

pub also_a_tick : (course : DeskCourse) (image : List ℕ) (inputLen answerLen : ℕ)
    → is_done (core_refusal course image inputLen answerLen) ≡ true → is_done (tick_refusal image inputLen answerLen) ≡ true
also_a_tick course image inputLen answerLen e = go (is_done (tick_refusal image inputLen answerLen)) refl
  where
    go : (t : Bool) → is_done (tick_refusal image inputLen answerLen) ≡ t → t ≡ true
    go true d = refl
    go false d = sym d ∙ ap is_done (sym (as_a_tick course image inputLen answerLen d)) ∙ e

-- ---- the two words

-- two words that were written over, put back: the bytes are those that stood there
pub restored : (input : List ℕ) (x y : Float) {given back : List ℕ} {v w : ℕ} → Bytes input → given ≡ with_heading input x y → v ≡ word input YAW → w ≡ word input (suc YAW)
    → Put given YAW (v ∷ w ∷ []) back
    → back ≡ input
unfolding with_heading
restored input x y h g p q b =
    (put_over {b = input} {u = bits x ∷ bits y ∷ []} record { is = g } b refl).is ∙ rw (p, q) (sym (then (word_stands input YAW h) (word_stands input (suc YAW) h) refl).is)

-- ---- the desk tick, on either course

pub done_of_core : (o : Outcome) → desk_done (of_core o) ≡ is_done o
done_of_core (Ok u) = refl
done_of_core (Err x) = refl

module _ (desk sticks image input answer : List ℕ) where
  abbrev lengths : Outcome
  lengths = first_of (lengths_table (length image) (length input) (length answer))

  -- the desk and the core were asked of the lengths
  pub lengths_right : {o : DeskOutcome} {u : Unit} {k : Outcome} {v : Unit} → o ≡ desk_refusal (length desk) (length sticks) sticks_bytes DeskDone → o ≡ Ok u → k ≡ lengths → k ≡ Ok v
      → desk_done (lengths_refusal desk sticks image input answer) ≡ true
  lengths_right {o} {u} e n f m = go (differs (length desk) desk_bytes) (differs (length sticks) sticks_bytes) (sym e ∙ n)
    where
      go : (a b : Bool) → cond a (Err DeskLength) (cond b (Err SticksLength) DeskDone) ≡ Ok u → desk_done (cond a (Err DeskLength) (cond b (Err SticksLength) (of_core lengths))) ≡ true
      go true b x = no (ap desk_done x)
      go false true x = no (ap desk_done x)
      go false false x = rw (← f, m)

  -- then the core, which left c
  pub goes : (Gives : List ℕ → List ℕ → List ℕ → Called → Type 0) → desk_done (lengths_refusal desk sticks image input answer) ≡ true
      → {l : Left DeskOutcome LentToDesk} (c : Called) → Gives image (flown_input desk sticks input) answer c → l ≡ after_core c desk sticks input
      → TicksBy Gives desk sticks image input answer l
  goes Gives d c g e = record { refused = λ n. no (sym n ∙ d); taken = λ t. (c, g, e) }

  module _ (course : DeskCourse) where
    abbrev refusal : Outcome
    refusal = core_refusal course image (length input) (length answer)

    abbrev asked : DeskOutcome
    asked = tick_refusal_at course (length desk) (length sticks) image (length input) (length answer)

    abbrev called : Left DeskOutcome LentToDesk
    called = desk_tick_call course desk sticks image input answer

    -- what the lengths are refused for, the desk tick is refused for
    wrong_lengths : desk_done (lengths_refusal desk sticks image input answer) ≡ false → asked ≡ lengths_refusal desk sticks image input answer
    unfolding tick_refusal_at
    wrong_lengths = go (differs (length desk) desk_bytes) (differs (length sticks) sticks_bytes) lengths refl
      where
        go : (a b : Bool) (o : Outcome) → lengths ≡ o → desk_done (cond a (Err DeskLength) (cond b (Err SticksLength) (of_core o))) ≡ false
            → cond a (Err DeskLength) (cond b (Err SticksLength) (of_core refusal)) ≡ cond a (Err DeskLength) (cond b (Err SticksLength) (of_core o))
        go true b o n e = refl
        go false true o n e = refl
        go false false (Ok u) n e = no (sym e)
        go false false (Err x) n e =
            let w = wrong_length image (length input) (length answer) refl n in ap of_core (as_a_tick course image (length input) (length answer) (ap is_done w) ∙ w)

    right_lengths : desk_done (lengths_refusal desk sticks image input answer) ≡ true → asked ≡ of_core refusal
    unfolding tick_refusal_at
    right_lengths = go (differs (length desk) desk_bytes) (differs (length sticks) sticks_bytes)
      where
        go : (a b : Bool) → desk_done (cond a (Err DeskLength) (cond b (Err SticksLength) (of_core lengths))) ≡ true
            → cond a (Err DeskLength) (cond b (Err SticksLength) (of_core refusal)) ≡ of_core refusal
        go true b e = no e
        go false true e = no e
        go false false e = refl

    flies : asked ≡ of_core refusal → after_core (core_call course image (flown_input desk sticks input) answer) desk sticks input ≡ called
    unfolding desk_tick_call
    flies k = rw k (go (is_done refusal) refl)
      where
        flown : List ℕ
        flown = flown_input desk sticks input

        size : core_refusal course image (length flown) (length answer) ≡ refusal
        size = rw (flown_length desk sticks input)

        go : (t : Bool) → is_done refusal ≡ t → after_core (core_call course image flown answer) desk sticks input
            ≡ (let core = (core_call course image flown answer).later in
            desk_left (of_core refusal) (lent_to_desk (desk_of (moved desk sticks input)) core.image flown core.answer) (lent_to_desk desk image input answer))
        go true d = rw (core_done course image flown answer (ap is_done size ∙ d), done_is refusal d)
        go false d = rw (core_keeps course image flown answer (ap is_done size ∙ d), size, done_of_core refusal, d)

    -- so of a core's tick that leaves what the course's does
    pub ticked_by : (Gives : List ℕ → List ℕ → List ℕ → Called → Type 0) {l : Left DeskOutcome LentToDesk} → TicksBy Gives desk sticks image input answer l
        → ((c : Called) → Gives image (flown_input desk sticks input) answer c → c ≡ core_call course image (flown_input desk sticks input) answer) → l ≡ called
    unfolding desk_tick_call
    ticked_by Gives {l} t g = go (desk_done (lengths_refusal desk sticks image input answer)) refl
      where
        go : (b : Bool) → desk_done (lengths_refusal desk sticks image input answer) ≡ b → l ≡ called
        go true e = let (c, x, y) = t.taken e in y ∙ ap (λ (k : Called). after_core k desk sticks input) (g c x) ∙ flies (right_lengths e)
        go false e = t.refused e ∙ rw (wrong_lengths e, e)
