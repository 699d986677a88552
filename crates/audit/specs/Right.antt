-- When a record of a log is right (request Ten of document 02): by the margins of the records up to it, with no flag carried along. Definitions only.
use Rattle.std.specs.Prelude.{ℕ, suc, ◌+◌, ◌<◌, ◌≡◌, ◌⊎◌, ◌↔◌, Bool, true, false, ◌&&◌, List, [], map, eqb, Float, get_or}
use Rattle.relay_math.specs.F32.{is_finite}
use Rattle.words.specs.Words.{word, float, float_of}
use Rattle.joint_tick.specs.declared.profile.Profile.{Profile}
use Rattle.joint_tick.specs.declared.profile.Profile.TheVariants.{Whole, LostRotor}
use Rattle.image.specs.Layout.{input_words, AGILE, COMMAND, FLAG, MARGIN}
use Rattle.image.specs.Passed.{passed_on, planner_word}
use Rattle.latch.specs.Latch.{FliesAt}
use Rattle.slow_shield.specs.Back.{look_back}

-- ---- the words of a record that are looked at; the answer stands behind the input

abbrev pub agile_word : List ℕ → ℕ → ℕ
agile_word r axis = word r (AGILE + axis)

abbrev pub command_word : List ℕ → ℕ → ℕ
command_word r axis = word r (input_words + COMMAND + axis)

abbrev pub flag_word : List ℕ → ℕ
flag_word r = word r (input_words + FLAG)

abbrev pub margin_in : List ℕ → Float
margin_in r = float r (input_words + MARGIN)

-- ---- what each flag asks of the command, in bits

-- on one axis the command is the planner's
unfoldable pub passes : List ℕ → ℕ → Bool
unfolding passed_on
passes r axis = eqb (command_word r axis) (passed_on (agile_word r axis))

-- "the third zero in the lost-rotor profile"
unfoldable pub passes_third : Profile → List ℕ → Bool
unfolding passes
passes_third Whole r = passes r 2
passes_third LostRotor r = eqb (command_word r 2) 0

-- "each record flagged 0 carries its agile words with non-finite made zero"
unfoldable pub planners : Profile → List ℕ → Bool
unfolding passes passes_third
planners profile r = passes r 0 && passes r 1 && passes_third profile r

-- on one axis the command is finite
unfoldable pub finite_on : List ℕ → ℕ → Bool
finite_on r axis = is_finite (float_of (command_word r axis))

-- "each flagged 1 carries finite ones"
unfoldable pub finites : List ℕ → Bool
unfolding finite_on
finites r = finite_on r 0 && finite_on r 1 && finite_on r 2

-- A record is right by the flag that is demanded of it, true where the fallback has control. "Any flag other than 0 or 1 is wrong."
unfoldable pub right : Profile → Bool → List ℕ → Bool
unfolding planners finites
right profile true r = eqb (flag_word r) 1 && finites r
right profile false r = eqb (flag_word r) 0 && planners profile r

-- ---- among others: "its flags are those that its own margin words demand from a fresh shield"

abbrev pub margins_in : List (List ℕ) → List Float
margins_in rs = map margin_in rs

-- the record at place i, counted from 0: the margins up to and including its own are looked back through, and no flag
unfoldable pub right_at : Profile → Float → Float → List (List ℕ) → ℕ → Bool
unfolding look_back right
right_at profile enter exit rs i = right profile (look_back enter exit (margins_in rs) (suc i)) (get_or rs i [])

-- ---- the same in the user's words: what a right record at place i shows

-- it names who flies by the user's rule, which knows no flag; the planner's words are carried as they are passed on, the fallback's are finite
pub record RightAt (profile : Profile) (enter exit : Float) (rs : List (List ℕ)) (i : ℕ) : Type 0 where
  pub flag : (flag_word (get_or rs i []) ≡ 0) ⊎ (flag_word (get_or rs i []) ≡ 1)
  pub flies : (flag_word (get_or rs i []) ≡ 0) ↔ FliesAt enter exit (margins_in rs) i
  pub planner : flag_word (get_or rs i []) ≡ 0 → (axis : ℕ) → axis < 3 → command_word (get_or rs i []) axis ≡ planner_word profile (get_or rs i []) axis
  pub fallback : flag_word (get_or rs i []) ≡ 1 → (axis : ℕ) → axis < 3 → is_finite (float_of (command_word (get_or rs i []) axis)) ≡ true
