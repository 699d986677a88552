-- What is passed on of a planner's command, in words: what a tick answers where the planner flies, and what a log's check asks for. Definitions only.
use Rattle.std.specs.Prelude.{ℕ, ◌+◌, cond, List, eqb}
use Rattle.words.specs.Words.{word, float_of, bits}
use Rattle.relay_math.specs.F32.{0·0, finite_or}
use Rattle.joint_tick.specs.declared.profile.Profile.{Profile}
use Rattle.joint_tick.specs.declared.profile.Profile.TheVariants.{Whole, LostRotor}
use Rattle.image.specs.Layout.{AGILE}

-- "non-finite made zero": the word of the number that is passed on. A finite word is passed on as it stands (`finite_itself`), -0.0 as 80000000.
unfoldable pub passed_on : ℕ → ℕ
passed_on w = bits (finite_or (float_of w) 0·0)

-- the planner's word on an axis, of a tick input or of a log's record, which starts with one: with a rotor lost "a planner's third component is made zero,
-- and demand 3 reads it so"
abbrev pub planner_word : Profile → List ℕ → ℕ → ℕ
planner_word Whole b axis = passed_on (word b (AGILE + axis))
planner_word LostRotor b axis = cond (eqb axis 2) 0 (passed_on (word b (AGILE + axis)))
