-- How a call ends, by its number (the documents' tables, and our own above 12), and what it leaves. Definitions only.
use Rattle.std.specs.Prelude.{ℕ, Bool, true, false, not, cond, List, [], ◌∷◌, eqb, Result, Ok, Err}
use Rattle.outcome.specs.declared.Refusal.{Refusal}
use Rattle.outcome.specs.declared.Refusal.TheVariants.{ImageLength, InputLength, AnswerLength, BrokenImage}
use Rattle.outcome.specs.declared.Refusal.TheVariants.{LegCount, RouteLength, LegsApart, BrokenLog, NoRoom, BadProfile, PassThrough, BadPattern, NoRecord, RecordLength}

abbrev pub refusal_number : Refusal → ℕ
refusal_number ImageLength = 1
refusal_number InputLength = 2
refusal_number AnswerLength = 3
refusal_number BrokenImage = 4
refusal_number LegCount = 5
refusal_number RouteLength = 6
refusal_number LegsApart = 7
refusal_number BrokenLog = 8
refusal_number NoRoom = 9
refusal_number BadProfile = 10
refusal_number PassThrough = 11
refusal_number BadPattern = 12
refusal_number NoRecord = 13
refusal_number RecordLength = 14

abbrev pub Outcome : Type 0
Outcome = Result Unit Refusal

-- the call was not refused
abbrev pub Done : Outcome
Done = Ok tt

abbrev pub number : Outcome → ℕ
number (Ok u) = 0
number (Err refusal) = refusal_number refusal

abbrev pub is_done : Outcome → Bool
is_done (Ok u) = true
is_done (Err refusal) = false

-- ---- what a call is refused for, as the documents' tables have it: a row is a test and a refusal, and the first row whose test holds wins

abbrev pub Table : Type 0
Table = List (Bool × Refusal)

abbrev pub first_of : Table → Outcome
first_of [] = Done
first_of (row ∷ rows) = cond row.0 (Err row.1) (first_of rows)

-- the test of a length that has to be n
abbrev pub differs : ℕ → ℕ → Bool
differs x n = not (eqb x n)

-- ---- what a call leaves: how it ended, and what the buffers that it may write hold afterwards

pub record Left (O B : Type 0) : Type 0 where
  pub outcome : O
  pub later : B

abbrev pub left : {O B : Type 0} → O → B → Left O B
left o later = record { outcome = o; later = later }

-- what an accepted call writes, unless it is refused: then every byte stays
abbrev pub left_unless : {B : Type 0} → Outcome → B → B → Left Outcome B
left_unless o written kept = cond (is_done o) (left Done written) (left o kept)

-- the same as C sees it, the outcome by its number
abbrev pub numbered : {B : Type 0} → Left Outcome B → Left ℕ B
numbered l = left (number l.outcome) l.later

-- a call that may write one buffer, and one that may write the image and the answer
abbrev pub Filled : Type 0
Filled = Left Outcome (List ℕ)

pub record Lent : Type 0 where
  pub image : List ℕ
  pub answer : List ℕ

abbrev pub lent : List ℕ → List ℕ → Lent
lent image answer = record { image = image; answer = answer }

abbrev pub Called : Type 0
Called = Left Outcome Lent
