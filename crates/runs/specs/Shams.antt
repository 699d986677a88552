-- What demand 3 alone says of a program (crate `calls`, specs/Shams.antt). Definitions only.
use Rattle.std.specs.Prelude.{ℕ, ◌≡◌, ◌↔◌, List, [], ◌∷◌, ◌++◌, length}
use Rattle.words.specs.Words.{word}
use Rattle.latch.specs.Latch.{Flies}
use Rattle.image.specs.Layout.{FLAG, input_bytes}
use Rattle.calls.specs.Entry.{set_up_call, tick_call}
use Rattle.calls.specs.Shams.{Program, blank_answer, answered}
use Rattle.runs.specs.Runs.{Segment, Tick, Call, guided, start, image_after, margins_along}
use Rattle.runs.specs.DemandThree.{enter_of, exit_of}

-- a tick on the image's own segment
abbrev pub plain : List ℕ → Tick
plain input = record { course = Segment; input = input; answer = blank_answer }

-- Its outcomes and its images are the promised ones, and at a tick after any run from set-up its flag is 0 exactly if the planner is to fly.
-- Nothing else is said of what it answers.
pub record KeepsDemandThree (p : Program) : Type 0 where
  pub set_up : (image input : List ℕ) → p.set_up image input ≡ set_up_call image input
  pub outcome : (image input : List ℕ) → (p.tick image input blank_answer).outcome ≡ (tick_call image input blank_answer).outcome
  pub image : (image input : List ℕ) → (p.tick image input blank_answer).later.image ≡ (tick_call image input blank_answer).later.image
  pub flies : (setup : List ℕ) (calls : List Call) (input : List ℕ) → length input ≡ input_bytes
      → let image = image_after (start setup) calls in
      (word (answered p image input) FLAG ≡ 0) ↔ Flies (enter_of setup) (exit_of setup) (margins_along (start setup) calls ++ (guided image (plain input)).margin ∷ [])
