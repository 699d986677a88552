-- A run of calls on one desk: it is handed back each time as the last call left it. Definitions only.
use Rattle.std.specs.Prelude.{cond, List, [], ◌∷◌, ◌++◌, ℕ, ◌+◌, ◌*◌, Float, length}
use Rattle.words.specs.Words.{float}
use Rattle.image.specs.Layout.{DT}
use Rattle.relay_adrc.specs.declared.filter.CommandFilter.{CommandFilter}
use Rattle.relay_adrc.specs.Filter.{Event, Step, Reset}
use Rattle.desk.specs.declared.filters.Desk.{Desk}
use Rattle.desk.specs.Filters.{new_words, desk_bytes, desk_of, desk_set_up}
use Rattle.desk.specs.Entry.{desk_done, centre_call, DeskCourse, tick_refusal_at, desk_tick_call}

-- ---- the sticks, by number: their filters, and the limits that set-up is given for each

pub data Stick : Type 0 where
  Heading : Stick
  Turn : Stick
  Zoom : Stick

abbrev pub place : Stick → ℕ
place Heading = 0
place Turn = 1
place Zoom = 2

abbrev pub filter_of : Stick → Desk → CommandFilter
filter_of Heading d = d.heading
filter_of Turn d = d.turn
filter_of Zoom d = d.zoom

abbrev pub omega_given : Stick → List ℕ → Float
omega_given s setup = float setup (new_words * place s)

abbrev pub mag_limit : Stick → List ℕ → Float
mag_limit s setup = float setup (new_words * place s + 1)

abbrev pub rate_limit : Stick → List ℕ → Float
rate_limit s setup = float setup (new_words * place s + 2)

-- ---- the calls

-- A desk tick, by what it is given beside the desk: what it flies, and any bytes of any length.
pub record DeskTick : Type 0 where
  pub course : DeskCourse
  pub sticks : List ℕ
  pub image : List ℕ
  pub input : List ℕ
  pub answer : List ℕ

pub data DeskCall : Type 0 where
  Ticks : DeskTick → DeskCall
  Centres : DeskCall

-- the desk that a call leaves; a refused one leaves it as it was
unfoldable pub desk_by : List ℕ → DeskCall → List ℕ
desk_by desk (Ticks t) = (desk_tick_call t.course desk t.sticks t.image t.input t.answer).later.desk
desk_by desk Centres = (centre_call desk).later

unfoldable pub desk_after : List ℕ → List DeskCall → List ℕ
unfolding desk_by
desk_after desk [] = desk
desk_after desk (c ∷ calls) = desk_after (desk_by desk c) calls

-- It starts at the desk that set-up's definition makes, of any input at all.
unfoldable pub desk_start : List ℕ → List ℕ
unfolding desk_set_up desk_of
desk_start setup = desk_of (desk_set_up setup)

-- ---- what happens to a stick's filter: a step by the stick's bits and dt's at an accepted tick, nothing at a refused one, a reset at the button

unfoldable pub events_by : Stick → DeskCall → List Event
unfolding tick_refusal_at
events_by s (Ticks t) =
    cond (desk_done (tick_refusal_at t.course desk_bytes (length t.sticks) t.image (length t.input) (length t.answer)))
    (Step (float t.sticks (place s)) (float t.input DT) ∷ []) []
events_by s Centres = Reset ∷ []

unfoldable pub events_along : Stick → List DeskCall → List Event
unfolding events_by
events_along s [] = []
events_along s (c ∷ calls) = events_by s c ++ events_along s calls
