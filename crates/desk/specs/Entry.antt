-- The calls on a desk: what is refused, and what each call leaves. Of the core they name a tick's and a route tick's refusal and call. Definitions only.
use Rattle.std.specs.Prelude.{ℕ, ◌*◌, ◌≡◌, Bool, true, false, cond, List, [], ◌∷◌, Float, length, Result, Ok, Err}
use Rattle.std.proofs.lemmas.List.Edits.{sets}
use Rattle.words.specs.Words.{float, vec, bits, bytes_of}
use Rattle.image.specs.Layout.{YAW, DT}
use Rattle.outcome.specs.Outcomes.{refusal_number, Outcome, Done, differs, Left, left, Called}
use Rattle.lent_tick.specs.Tick.{tick_refusal}
use Rattle.calls.specs.Entry.{tick_call}
use Rattle.route.specs.Form.{form_refusal}
use Rattle.route.specs.Entry.{route_refusal, route_call}
use Rattle.desk.specs.declared.filters.Desk.{Desk}
use Rattle.desk.specs.declared.entry.DeskRefusal.{DeskRefusal}
use Rattle.desk.specs.declared.entry.DeskRefusal.TheVariants.{DeskLength, SticksLength, Core}
use Rattle.desk.specs.Filters.{desk_bytes, desk_setup_bytes, sticks_bytes, desk_at, desk_of, desk_set_up, desk_step, desk_centre}

abbrev pub desk_refusal_number : DeskRefusal → ℕ
desk_refusal_number DeskLength = 15
desk_refusal_number SticksLength = 16
desk_refusal_number (Core refusal) = refusal_number refusal

abbrev pub DeskOutcome : Type 0
DeskOutcome = Result Unit DeskRefusal

-- the call was not refused
abbrev pub DeskDone : DeskOutcome
DeskDone = Ok tt

-- the core's outcome, handed on
abbrev pub of_core : Outcome → DeskOutcome
of_core (Ok u) = DeskDone
of_core (Err refusal) = Err (Core refusal)

abbrev pub desk_number : DeskOutcome → ℕ
desk_number (Ok u) = 0
desk_number (Err refusal) = desk_refusal_number refusal

abbrev pub desk_done : DeskOutcome → Bool
desk_done (Ok u) = true
desk_done (Err refusal) = false

-- ---- what is refused: the desk's length, then what is said of the sticks, then what the core refuses

abbrev pub desk_refusal : ℕ → ℕ → ℕ → DeskOutcome → DeskOutcome
desk_refusal deskLen sticksLen right core = cond (differs deskLen desk_bytes) (Err DeskLength) (cond (differs sticksLen right) (Err SticksLength) core)

-- what an accepted call writes, unless it is refused: then every byte stays
abbrev pub desk_left : {B : Type 0} → DeskOutcome → B → B → Left DeskOutcome B
desk_left o written kept = cond (desk_done o) (left DeskDone written) (left o kept)

-- the same as C sees it, the outcome by its number
abbrev pub desk_numbered : {B : Type 0} → Left DeskOutcome B → Left ℕ B
desk_numbered l = left (desk_number l.outcome) l.later

-- ---- set-up and the centre button

unfoldable pub desk_set_up_call : List ℕ → List ℕ → Left DeskOutcome (List ℕ)
unfolding desk_set_up desk_of
desk_set_up_call desk input = desk_left (desk_refusal (length desk) (length input) desk_setup_bytes DeskDone) (desk_of (desk_set_up input)) desk

unfoldable pub centre_call : List ℕ → Left DeskOutcome (List ℕ)
unfolding desk_at desk_of
centre_call desk = desk_left (cond (differs (length desk) desk_bytes) (Err DeskLength) DeskDone) (desk_of (desk_centre (desk_at desk))) desk

-- ---- the desk tick

-- "writes the first two over the yaw and yaw rate words of the lent tick input itself"
unfoldable pub with_heading : List ℕ → Float → Float → List ℕ
with_heading input heading turn = sets input (4 * YAW) (bytes_of (bits heading ∷ bits turn ∷ []))

-- the desk after its filters are stepped "by the tick input's dt", and the input that the core then flies
unfoldable pub moved : List ℕ → List ℕ → List ℕ → Desk
unfolding desk_at desk_step
moved desk sticks input = desk_step (desk_at desk) (vec sticks 0) (float input DT)

unfoldable pub flown_input : List ℕ → List ℕ → List ℕ → List ℕ
unfolding with_heading moved
flown_input desk sticks input =
    let d = moved desk sticks input in
    with_heading input d.heading.y d.turn.y

-- the buffers that a desk tick may write
pub record LentToDesk : Type 0 where
  pub desk : List ℕ
  pub image : List ℕ
  pub input : List ℕ
  pub answer : List ℕ

abbrev pub lent_to_desk : List ℕ → List ℕ → List ℕ → List ℕ → LentToDesk
lent_to_desk desk image input answer = record { desk = desk; image = image; input = input; answer = answer }

-- what a desk tick flies: the segment that the image holds, or a route
pub data DeskCourse : Type 0 where
  OnSegment : DeskCourse
  OnRoute : List ℕ → DeskCourse

-- what the core refuses there, and what its tick leaves
abbrev pub core_refusal : DeskCourse → List ℕ → ℕ → ℕ → Outcome
core_refusal OnSegment image inputLen answerLen = tick_refusal image inputLen answerLen
core_refusal (OnRoute route) image inputLen answerLen = route_refusal image inputLen answerLen route

abbrev pub core_call : DeskCourse → List ℕ → List ℕ → List ℕ → Called
core_call OnSegment image input answer = tick_call image input answer
core_call (OnRoute route) image input answer = route_call image input route answer

unfoldable pub tick_refusal_at : DeskCourse → ℕ → ℕ → List ℕ → ℕ → ℕ → DeskOutcome
tick_refusal_at course deskLen sticksLen image inputLen answerLen = desk_refusal deskLen sticksLen sticks_bytes (of_core (core_refusal course image inputLen answerLen))

unfoldable pub desk_tick_call : DeskCourse → List ℕ → List ℕ → List ℕ → List ℕ → List ℕ → Left DeskOutcome LentToDesk
unfolding tick_refusal_at flown_input moved desk_of
desk_tick_call course desk sticks image input answer =
    let flown = flown_input desk sticks input in
    let core = (core_call course image flown answer).later in
    desk_left (tick_refusal_at course (length desk) (length sticks) image (length input) (length answer))
    (lent_to_desk (desk_of (moved desk sticks input)) core.image flown core.answer) (lent_to_desk desk image input answer)

-- ---- what the theorems in proofs/ speak of

-- a course that the core takes: of a route, its form
abbrev pub GoodCourse : DeskCourse → Type 0
GoodCourse OnSegment = Unit
GoodCourse (OnRoute route) = form_refusal route ≡ Done
