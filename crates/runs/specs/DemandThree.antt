-- The user's third demand, on bytes: what is said of one tick. Definitions only.
use Rattle.std.specs.Prelude.{◌≡◌, ◌⊎◌, ◌↔◌, true, false, List, [], ◌∷◌, map, ℕ, ◌+◌, Float}
use Rattle.std.specs.Float.Ieee.{lt}
use Rattle.words.specs.Words.{word, float, bits, floats_of_vec, words_of}
use Rattle.relay_math.specs.F32.{is_finite}
use Rattle.relay_geo.specs.Vectors.{sanitise3}
use Rattle.joint_tick.specs.declared.stages.Guided.{Guided}
use Rattle.joint_tick.specs.Profile.{profile_of}
use Rattle.image.specs.Layout.{ENTER, EXIT, PROFILE, COMMAND, FLAG, MARGIN}
use Rattle.image.specs.Passed.{planner_word}
use Rattle.outcome.specs.Outcomes.{number}
use Rattle.runs.specs.Runs.{Tick, tick_of, guided, start}

-- the thresholds, as set-up mended them
abbrev pub enter_of : List ℕ → Float
enter_of setup = float (start setup) ENTER

abbrev pub exit_of : List ℕ → Float
exit_of setup = float (start setup) EXIT

-- the planner's three words of a tick input as they are passed on, by the profile's word
abbrev pub planner_words : ℕ → List ℕ → List ℕ
planner_words profile input = map (planner_word (profile_of profile) input) (0 ∷ 1 ∷ 2 ∷ [])

-- the fallback's, and those that the answer passes on
abbrev pub fallback_words : Guided → List ℕ
fallback_words g = words_of (floats_of_vec (sanitise3 g.fallback.0))

abbrev pub command_words : List ℕ → List ℕ
command_words answer = word answer COMMAND ∷ word answer (COMMAND + 1) ∷ word answer (COMMAND + 2) ∷ []

-- the flag that a tick of the image answers
abbrev pub flag_of : List ℕ → Tick → ℕ
flag_of image t = word (tick_of image t).later.answer FLAG

-- What a tick of the image shows: it is accepted; its flag is 0 or 1, and 0 exactly if the planner is to fly; the flag names whose command is
-- passed on; and the margin is shown, so that it can be read off.
pub record Shows (Flying : Type 0) (image : List ℕ) (t : Tick) : Type 0 where
  pub accepted : number (tick_of image t).outcome ≡ 0
  pub flag : (flag_of image t ≡ 0) ⊎ (flag_of image t ≡ 1)
  pub flies : (flag_of image t ≡ 0) ↔ Flying
  pub planner : flag_of image t ≡ 0 → command_words (tick_of image t).later.answer ≡ planner_words (word image PROFILE) t.input
  pub fallback : flag_of image t ≡ 1 → command_words (tick_of image t).later.answer ≡ fallback_words (guided image t)
  pub margin : word (tick_of image t).later.answer MARGIN ≡ bits (guided image t).margin
  pub margin_read : float (tick_of image t).later.answer MARGIN ≡ (guided image t).margin

-- the user's middle: finite, not above exit and not below enter, each of them included
pub record InBand (enter exit m : Float) : Type 0 where
  pub finite : is_finite m ≡ true
  pub not_above : lt exit m ≡ false
  pub not_below : lt m enter ≡ false
