-- Request Twelve: set-up as the release before it had it, and a stored filter that is none. Definitions only.
use Rattle.std.specs.Prelude.{◌≡◌, Bool, not, List, [], ◌∷◌, ℕ, ◌+◌, length}
use Rattle.words.specs.Words.{word, float}
use Rattle.relay_adrc.specs.Biquad.{passes_through}
use Rattle.joint_tick.specs.Profile.{is_profile}
use Rattle.image.specs.Layout.{LPF, biquad_words, image_bytes, setup_fc, setup_fs, setup_profile, setup_bytes}
use Rattle.outcome.specs.Outcomes.{Outcome}
use Rattle.outcome.specs.declared.Refusal.TheVariants.{ImageLength, InputLength, BadProfile}
use Rattle.outcome.specs.Outcomes.{Table, first_of, differs, left_unless, Filled}
use Rattle.runs.specs.Runs.{start}

-- whether `Biquad::lowpass` turns a set-up's cut-off and sample rate into a pass-through
abbrev pub unfiltered : List ℕ → Bool
unfiltered setup = passes_through (float setup setup_fc) (float setup setup_fs)

-- set-up before: its table had no 11
abbrev pub table_before : ℕ → List ℕ → Table
table_before imageLen setup =
    (differs imageLen image_bytes, ImageLength)
    ∷ (differs (length setup) setup_bytes, InputLength)
    ∷ (not (is_profile (word setup setup_profile)), BadProfile)
    ∷ []

unfoldable pub refusal_before : ℕ → List ℕ → Outcome
refusal_before imageLen setup = first_of (table_before imageLen setup)

unfoldable pub set_up_before : List ℕ → List ℕ → Filled
unfolding refusal_before start
set_up_before image setup = left_unless (refusal_before (length image) setup) (start setup) image

-- where the filter of an axis stands in an image
pub data Filter : ℕ → Type 0 where
  Roll : Filter LPF
  Pitch : Filter (LPF + biquad_words)
  Yaw : Filter (LPF + biquad_words + biquad_words)

-- the coefficients of the filter at k are a pass-through's: b0 1.0, and +0.0 for the other four
pub record Passes (image : List ℕ) (k : ℕ) : Type 0 where
  pub b0 : word image k ≡ 0x3f80_0000
  pub b1 : word image (k + 1) ≡ 0
  pub b2 : word image (k + 2) ≡ 0
  pub a1 : word image (k + 3) ≡ 0
  pub a2 : word image (k + 4) ≡ 0
