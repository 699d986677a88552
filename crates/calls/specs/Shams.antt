-- Sham builds: programs that look like this one and do nothing of what it is for. Definitions only.
use Rattle.std.specs.Prelude.{ℕ, suc, ◌≡◌, List, [], ◌∷◌, ◌++◌, length, replicate}
use Rattle.words.specs.Words.{bytes_of}
use Rattle.image.specs.Layout.{image_bytes, answer_bytes, input_bytes}
use Rattle.outcome.specs.Outcomes.{Done}
use Rattle.outcome.specs.Outcomes.{Filled, Called}
use Rattle.calls.specs.Entry.{SetsUp, set_up_call, tick_call}

-- Any program, by what its two calls leave: set-up of an image and an input, a tick of an image, an input and an answer.
pub record Program : Type 0 where
  pub set_up : List ℕ → List ℕ → Filled
  pub tick : List ℕ → List ℕ → List ℕ → Called

-- It keeps the promises of `setup` and `tick`, at every call.
pub record Keeps (p : Program) : Type 0 where
  pub set_up : (image input : List ℕ) → p.set_up image input ≡ set_up_call image input
  pub tick : (image input answer : List ℕ) → p.tick image input answer ≡ tick_call image input answer

-- ---- "one refusing all calls": it never sets up, or never ticks

pub record RefusesSetUps (p : Program) : Type 0 where
  pub never : (image input : List ℕ) → ¬ ((p.set_up image input).outcome ≡ Done)

pub record RefusesTicks (p : Program) : Type 0 where
  pub never : (image input answer : List ℕ) → ¬ ((p.tick image input answer).outcome ≡ Done)

-- ---- "one with one constant answer"

pub record AnswersOnly (p : Program) (c : List ℕ) : Type 0 where
  pub always : (image input answer : List ℕ) → (p.tick image input answer).outcome ≡ Done → (p.tick image input answer).later.answer ≡ c

-- ---- "one that returns the image untouched"

pub record LeavesSetUp (p : Program) : Type 0 where
  pub always : (image input : List ℕ) → (p.set_up image input).later ≡ image

pub record LeavesTicked (p : Program) : Type 0 where
  pub always : (image input answer : List ℕ) → (p.tick image input answer).later.image ≡ image

-- ---- "one that works at the first tick and echoes it later"

-- an answer buffer, and an image to set up on
abbrev pub blank_answer : List ℕ
blank_answer = replicate answer_bytes 0

abbrev pub blank_image : List ℕ
blank_image = replicate image_bytes 0

-- the image after a run of ticks, each on the image that the last one left
abbrev pub ran : Program → List ℕ → List (List ℕ) → List ℕ
ran p image [] = image
ran p image (input ∷ more) = ran p (p.tick image input blank_answer).later.image more

abbrev pub answered : Program → List ℕ → List ℕ → List ℕ
answered p image input = (p.tick image input blank_answer).later.answer

-- from set-up: after a first tick and n more, one more tick answers as the first did, whatever its input. An echo does so for every n; one n is enough.
pub record EchoesAfter (p : Program) (n : ℕ) : Type 0 where
  pub again : (b first later : List ℕ) → SetsUp b → length first ≡ input_bytes → length later ≡ input_bytes →
      answered p (ran p (p.set_up blank_image b).later (replicate (suc n) first)) later ≡ answered p (p.set_up blank_image b).later first

-- ---- a run in which the planner is given control and then loses it

-- the set (1, 1, 1.75), enter 0.5, exit 1, the gyro filtered at 80 Hz of 1000, the profile by its word; else all zeros
abbrev pub level_set_up_by : ℕ → List ℕ
level_set_up_by profile =
    bytes_of (replicate 9 0 ++ 0x3f80_0000 ∷ 0x3f80_0000 ∷ 0x3fe0_0000 ∷ 0x3f00_0000 ∷ 0x3f80_0000 ∷ replicate 34 0 ++ 0x42a0_0000 ∷ 0x447a_0000 ∷ profile ∷ [])

abbrev pub level_set_up : List ℕ
level_set_up = level_set_up_by 0

-- level and at rest, the heading by its word: the quaternion (1, 0, 0, 0), else all zeros
abbrev pub headed_input : ℕ → List ℕ
headed_input yaw = bytes_of (replicate 3 0 ++ 0x3f80_0000 ∷ replicate 4 0 ++ yaw ∷ replicate 8 0)

abbrev pub level_input : List ℕ
level_input = headed_input 0

-- a heading that is no number
abbrev pub lost_input : List ℕ
lost_input = headed_input 0x7fc0_0000
