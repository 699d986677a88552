-- A run with a desk beside the core: the desk and the image are handed back each time as the last call left them. Definitions only.
use Rattle.std.specs.Prelude.{cond, List, [], ◌∷◌, ◌++◌, ℕ}
use Rattle.outcome.specs.Outcomes.{Left}
use Rattle.runs.specs.Runs.{Course, Segment, Route, Tick, Call, left_by}
use Rattle.runs.specs.Runs.{Ticks as CoreTicks}
use Rattle.flight_log.specs.Runs.{records_of}
use Rattle.own_logs.specs.Own.{keeps_of}
use Rattle.desk.specs.Entry.{DeskOutcome, desk_done, centre_call, LentToDesk, DeskCourse, OnSegment, OnRoute, desk_tick_call}
use Rattle.desk.specs.Runs.{DeskCall, Ticks, Centres}

pub record DeskAndImage : Type 0 where
  pub desk : List ℕ
  pub image : List ℕ

abbrev pub desk_and_image : List ℕ → List ℕ → DeskAndImage
desk_and_image desk image = record { desk = desk; image = image }

-- what a desk tick is given beside them: what it flies, and any bytes of any length
pub record DeskGiven : Type 0 where
  pub course : Course
  pub sticks : List ℕ
  pub input : List ℕ
  pub answer : List ℕ

-- a course as the desk's definitions have it, which know no runs
abbrev pub by_desk : Course → DeskCourse
by_desk Segment = OnSegment
by_desk (Route route) = OnRoute route

abbrev pub desk_tick : DeskAndImage → DeskGiven → Left DeskOutcome LentToDesk
desk_tick h g = desk_tick_call (by_desk g.course) h.desk g.sticks h.image g.input g.answer

-- A call: a desk tick, the centre button, or one on the core alone, of any kind that crate `runs` has.
pub data AnyCall : Type 0 where
  ByDesk : DeskGiven → AnyCall
  Button : AnyCall
  OnCore : Call → AnyCall

unfoldable pub held_by : DeskAndImage → AnyCall → DeskAndImage
held_by h (ByDesk g) = let l = (desk_tick h g).later in desk_and_image l.desk l.image
held_by h Button = desk_and_image (centre_call h.desk).later h.image
held_by h (OnCore c) = desk_and_image h.desk (left_by h.image c)

unfoldable pub held_after : DeskAndImage → List AnyCall → DeskAndImage
unfolding held_by
held_after h [] = h
held_after h (c ∷ calls) = held_after (held_by h c) calls

-- ---- what the core sees: an accepted desk tick is a tick on the same course, of the input as the desk left it

abbrev pub flown_tick : DeskAndImage → DeskGiven → Tick
flown_tick h g = record { course = g.course; input = (desk_tick h g).later.input; answer = g.answer }

unfoldable pub core_calls : DeskAndImage → AnyCall → List Call
core_calls h (ByDesk g) = cond (desk_done (desk_tick h g).outcome) (CoreTicks (flown_tick h g) ∷ []) []
core_calls h Button = []
core_calls h (OnCore c) = c ∷ []

unfoldable pub core_along : DeskAndImage → List AnyCall → List Call
unfolding held_by core_calls
core_along h [] = []
core_along h (c ∷ calls) = core_calls h c ++ core_along (held_by h c) calls

-- ---- what the desk sees

unfoldable pub desk_calls : DeskAndImage → AnyCall → List DeskCall
desk_calls h (ByDesk g) = Ticks record { course = by_desk g.course; sticks = g.sticks; image = h.image; input = g.input; answer = g.answer } ∷ []
desk_calls h Button = Centres ∷ []
desk_calls h (OnCore c) = []

unfoldable pub desk_along : DeskAndImage → List AnyCall → List DeskCall
unfolding held_by desk_calls
desk_along h [] = []
desk_along h (c ∷ calls) = desk_calls h c ++ desk_along (held_by h c) calls

-- ---- "so that a log keeps what was flown": the records that a log of every accepted tick has, of a desk tick the input as the desk left it

unfoldable pub records_by : DeskAndImage → AnyCall → List (List ℕ)
records_by h (ByDesk g) = let l = desk_tick h g in cond (desk_done l.outcome) ((l.later.input ++ l.later.answer) ∷ []) []
records_by h Button = []
records_by h (OnCore c) = records_of (keeps_of h.image c)

unfoldable pub records_along : DeskAndImage → List AnyCall → List (List ℕ)
unfolding held_by records_by
records_along h [] = []
records_along h (c ∷ calls) = records_by h c ++ records_along (held_by h c) calls
