-- The profile and its word. Definitions only.
use Rattle.std.specs.Prelude.{ℕ, Bool, ◌||◌, cond, eqb, Result, Ok, Err}
use Rattle.joint_tick.specs.declared.profile.Profile.{Profile}
use Rattle.joint_tick.specs.declared.profile.Profile.TheVariants.{Whole, LostRotor}
use Rattle.joint_tick.specs.declared.profile.UnknownProfile.{UnknownProfile}

-- "0 the old rules, 1 the lost rotor"
abbrev pub profile_word : Profile → ℕ
profile_word Whole = 0
profile_word LostRotor = 1

-- the words that are a profile's
unfoldable pub is_profile : ℕ → Bool
is_profile w = eqb w 0 || eqb w 1

-- the profile of a word: any word has one, but set-up refuses a word that is no profile's with 10, and a tick with 4
abbrev pub profile_of : ℕ → Profile
profile_of w = cond (eqb w 1) LostRotor Whole

-- read with a refusal: the profile of a word that is a profile's, and else the word
abbrev pub read_profile : ℕ → Result Profile UnknownProfile
read_profile w = cond (is_profile w) (Ok (profile_of w)) (Err (record { 0 = w }))
