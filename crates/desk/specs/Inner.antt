-- Only inner functions promise these: whoever reads what is claimed need not read them. Definitions only.
use Rattle.std.specs.Prelude.{◌≡◌, true, false, List, ℕ, length}
use Rattle.std.specs.Fn.{Once}
use denote.Ref.{Bor, MutBor}
use Rattle.outcome.specs.Outcomes.{Outcome, first_of, Left, left, lent, Called}
use Rattle.lent_tick.specs.Tick.{lengths_table}
use Rattle.desk.specs.Filters.{sticks_bytes, desk_of}
use Rattle.desk.specs.Entry.{DeskOutcome, of_core, desk_done, desk_refusal, desk_left, moved, flown_input, LentToDesk, lent_to_desk}

-- ---- what a core's tick, `core`, may leave, l, of these bytes

abbrev pub LentSlices : Type 0
LentSlices = MutBor (List ℕ) × (Bor (List ℕ) × (MutBor (List ℕ) × Unit {0}))

abbrev pub LeftSlices : Type 0
LeftSlices = Outcome × (MutBor (List ℕ) × (MutBor (List ℕ) × Unit {0}))

pub record CoreGives {F : Type 0} (g : Once F LentSlices LeftSlices) (core : F) (image input answer : List ℕ) (l : Called) : Type 0 where
  pub before : LentSlices
  pub shows : (before.0.now ≡ image) × (before.1.0.now ≡ input) × (before.1.1.0.now ≡ answer)
  pub after : LeftSlices
  pub met : g.post core before after
  pub leaves : l ≡ left after.0 (lent after.1.0.now after.1.1.0.now)

-- ---- what a desk tick leaves whose core left c of the input that it flew: the stepped desk is kept, or the input's two words are put back

abbrev pub after_core : Called → List ℕ → List ℕ → List ℕ → Left DeskOutcome LentToDesk
after_core c desk sticks input =
    desk_left (of_core c.outcome) (lent_to_desk (desk_of (moved desk sticks input)) c.later.image (flown_input desk sticks input) c.later.answer)
    (lent_to_desk desk c.later.image input c.later.answer)

-- what the desk and the core find wrong of the lengths
abbrev pub lengths_refusal : List ℕ → List ℕ → List ℕ → List ℕ → List ℕ → DeskOutcome
lengths_refusal desk sticks image input answer =
    desk_refusal (length desk) (length sticks) sticks_bytes (of_core (first_of (lengths_table (length image) (length input) (length answer))))

-- what a desk tick leaves, l, whose core may give these: refused for the lengths, or else by one of them
pub record TicksBy (Gives : List ℕ → List ℕ → List ℕ → Called → Type 0) (desk sticks image input answer : List ℕ) (l : Left DeskOutcome LentToDesk) : Type 0 where
  pub refused : let o = lengths_refusal desk sticks image input answer in desk_done o ≡ false → l ≡ left o (lent_to_desk desk image input answer)
  pub taken : desk_done (lengths_refusal desk sticks image input answer) ≡ true → (c : Called) × Gives image (flown_input desk sticks input) answer c × (l ≡ after_core c desk sticks input)
