-- "so that a log keeps what was flown". Assumes nothing.
use Rattle.laws.proofs.Prelude.{◌≡◌, ◌∙◌, true, List, [], ◌∷◌, ◌++◌, ℕ}
use Rattle.outcome.specs.{Outcomes.{Done, is_done, Left, left, lent}}
use Rattle.flight_log.{specs.{Form.is_log, Records.records, Runs.{LogBuffer, ToAppend, log_in, appended, after_one, after_all, kept_along}}, proofs.Reading.after_appends}
use Rattle.desk.{specs.Entry.{DeskOutcome, desk_done, LentToDesk, DeskCourse, core_call, desk_tick_call}, proofs.DeskCalls.is_core_tick}

module _ (course : DeskCourse) (desk sticks image input answer : List ℕ) where
  abbrev call : Left DeskOutcome LentToDesk
  call = desk_tick_call course desk sticks image input answer

  -- the buffers as the desk tick leaves them, given to an append
  abbrev pub as_left : ToAppend
  as_left = record { input = call.later.input; answer = call.later.answer }

  -- The record is the input as it was flown and the answer: the core's tick of the record's input gives the record's answer, and the image that the desk tick left.
  pub log_keeps_flown : (h : LogBuffer) → is_log (log_in h) ≡ true → desk_done call.outcome ≡ true → is_done (appended h as_left).outcome ≡ true
      → (records (log_in (after_one h as_left)) ≡ records (log_in h) ++ (call.later.input ++ call.later.answer) ∷ [])
      × (core_call course image call.later.input answer ≡ left Done (lent call.later.image call.later.answer))
  unfolding after_all kept_along
  log_keeps_flown h l d a = ((after_appends h (as_left ∷ []) l).1 ∙ rw a, is_core_tick course desk sticks image input answer d)
