-- A run: calls one after another on an image that set-up made, handed back each time as the last call left it. Definitions only.
use Rattle.std.specs.Prelude.{◌≡◌, List, [], ◌∷◌, ◌++◌, map, ℕ, Float, length, get_or, take}
use Rattle.joint_tick.specs.declared.stages.Guided.{Guided}
use Rattle.joint_tick.specs.declared.stages.Reference.{Reference}
use Rattle.joint_tick.specs.SetUp.{segment_of, set_up}
use Rattle.joint_tick.specs.Tick.{guidance}
use Rattle.image.specs.Layout.{input_bytes, answer_bytes}
use Rattle.image.specs.Image.{fixed_at, state_at, image_of}
use Rattle.image.specs.Inputs.{setup_at, input_at}
use Rattle.outcome.specs.Outcomes.{Done}
use Rattle.outcome.specs.Outcomes.{Called}
use Rattle.lent_tick.specs.Steps.{margins_if}
use Rattle.calls.specs.Entry.{exchange_call, on_segment, tick_call}
use Rattle.route.specs.Form.{leg_of, leg_count, form_refusal}
use Rattle.route.specs.Entry.{on_route, route_call}

-- ---- the calls

-- what a tick flies: the segment that the image holds, or a route
pub data Course : Type 0 where
  Segment : Course
  Route : List ℕ → Course

-- A tick, by what it is given beside the image: what it flies, its input, and an answer buffer with whatever bytes it holds.
pub record Tick : Type 0 where
  pub course : Course
  pub input : List ℕ
  pub answer : List ℕ

-- A call of a run: a tick, or an exchange of the segment by the bytes of a leg. Another is a case more, here and in the two definitions by cases below.
pub data Call : Type 0 where
  Ticks : Tick → Call
  Exchanges : List ℕ → Call

-- the call that flies a course, and what a tick leaves: its outcome, the image and the answer
unfoldable pub flying : Course → List ℕ → List ℕ → List ℕ → Called
unfolding tick_call route_call
flying Segment image input answer = tick_call image input answer
flying (Route route) image input answer = route_call image input route answer

abbrev pub tick_of : List ℕ → Tick → Called
tick_of image t = flying t.course image t.input t.answer

-- the image that a call leaves; a refused one leaves it as it was
unfoldable pub left_by : List ℕ → Call → List ℕ
unfolding flying exchange_call
left_by image (Ticks t) = (tick_of image t).later.image
left_by image (Exchanges segment) = (exchange_call image segment).later

-- ---- the margins

-- where the references of a tick come from
abbrev pub source_on : Course → List ℕ → Float → Reference
source_on Segment image = on_segment image
source_on (Route route) image = on_route route

-- what the documents work out at a tick: the margin, and the fallback's command
unfoldable pub guided : List ℕ → Tick → Guided
guided image t = guidance (source_on t.course image) (state_at image) (input_at t.input)

-- the margins that a call steps the shield by: that of a tick, if it is accepted; an exchange has none
unfoldable pub margins_by : List ℕ → Call → List Float
unfolding flying guided
margins_by image (Ticks t) = margins_if (tick_of image t) (guided image t).margin
margins_by image (Exchanges segment) = []

-- ---- the run

-- It starts at the image that set-up's definition makes, of any input at all.
unfoldable pub start : List ℕ → List ℕ
start setup = image_of (set_up (setup_at setup))

-- the image after the calls, and the margins of all their accepted ticks, in order
unfoldable pub image_after : List ℕ → List Call → List ℕ
unfolding left_by
image_after image [] = image
image_after image (c ∷ calls) = image_after (left_by image c) calls

unfoldable pub margins_along : List ℕ → List Call → List Float
unfolding left_by margins_by
margins_along image [] = []
margins_along image (c ∷ calls) = margins_by image c ++ margins_along (left_by image c) calls

-- ---- ticks that are given what they should be: right lengths and, on a route, a right route

abbrev pub RightCourse : Course → Type 0
RightCourse Segment = Unit
RightCourse (Route route) = form_refusal route ≡ Done

abbrev pub Right : Tick → Type 0
Right t = (length t.input ≡ input_bytes) × (length t.answer ≡ answer_bytes) × RightCourse t.course

abbrev pub AllRight : List Tick → Type 0
AllRight [] = Unit
AllRight (t ∷ ticks) = Right t × AllRight ticks

-- ---- by places, counted from 0: tick number k, and the image that it is handed. (k lies within the list wherever this is used.)

abbrev pub tick_at : List Tick → ℕ → Tick
tick_at ticks k = get_or ticks k record { course = Segment; input = []; answer = [] }

abbrev pub image_at : List ℕ → List Tick → ℕ → List ℕ
image_at image ticks k = image_after image (map Ticks (take k ticks))

-- ---- the route that a tick flies: its own, or one of one leg whose segment is the image's

abbrev pub Flies : Course → List ℕ → List ℕ → Type 0
Flies Segment image route = (form_refusal route ≡ Done) × (leg_count route ≡ 1) × ((fixed_at image).segment ≡ segment_of (leg_of route 0))
Flies (Route own) image route = own ≡ route
