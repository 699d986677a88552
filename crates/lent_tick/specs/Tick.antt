-- A tick on lent bytes, by references from any source: what is refused, and what is left (document 01's table). Definitions only.
use Rattle.std.specs.Prelude.{ℕ, not, List, [], ◌∷◌, Float, length}
use Rattle.joint_tick.specs.declared.stages.Reference.{Reference}
use Rattle.joint_tick.specs.Tick.{prepare, ticked, state_after}
use Rattle.image.specs.Layout.{image_bytes, input_bytes, answer_bytes}
use Rattle.image.specs.Image.{state_at, image_of}
use Rattle.image.specs.Inputs.{input_at, answer_of}
use Rattle.outcome.specs.Outcomes.{Outcome}
use Rattle.outcome.specs.declared.Refusal.TheVariants.{ImageLength, InputLength, AnswerLength, BrokenImage}
use Rattle.outcome.specs.Outcomes.{Table, first_of, differs, left_unless, lent, Called}
use Rattle.lent_tick.specs.Unbroken.{unbroken}

-- The first row that holds, and so the lowest number. A tick is refused whatever its input's bytes are.
abbrev pub tick_table : List ℕ → ℕ → ℕ → Table
tick_table image inputLen answerLen =
    (differs (length image) image_bytes, ImageLength)
    ∷ (differs inputLen input_bytes, InputLength)
    ∷ (differs answerLen answer_bytes, AnswerLength)
    ∷ (not (unbroken image), BrokenImage)
    ∷ []

-- its rows 1 to 3
abbrev pub lengths_table : ℕ → ℕ → ℕ → Table
lengths_table imageLen inputLen answerLen =
    (differs imageLen image_bytes, ImageLength) ∷ (differs inputLen input_bytes, InputLength) ∷ (differs answerLen answer_bytes, AnswerLength) ∷ []

unfoldable pub tick_refusal : List ℕ → ℕ → ℕ → Outcome
unfolding unbroken
tick_refusal image inputLen answerLen = first_of (tick_table image inputLen answerLen)

-- the time at which a tick takes its reference: the governor's, moved on by this tick
abbrev pub time_at : List ℕ → List ℕ → Float
time_at image input = let s = state_at image in (prepare s.fixed.profile s.moving (input_at input)).time

-- Refused for o or else done: plain ticks and route ticks differ in these two alone.
unfoldable pub tick_from : (Float → Reference) → Outcome → List ℕ → List ℕ → List ℕ → Called
tick_from source o image input answer =
    let s = state_at image in
    let i = input_at input in
    left_unless o (lent (image_of (state_after source s i)) (answer_of (ticked source s i).answer)) (lent image answer)
