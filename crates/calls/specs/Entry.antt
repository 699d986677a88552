-- Set-up, tick and exchange on lent bytes: what is refused, and what each call leaves (document 01's table). Definitions only.
use Rattle.std.specs.Prelude.{ℕ, ◌≡◌, not, List, [], ◌∷◌, Float, length}
use Rattle.words.specs.Words.{word, float}
use Rattle.relay_adrc.specs.Biquad.{passes_through}
use Rattle.joint_tick.specs.declared.stages.Reference.{Reference}
use Rattle.joint_tick.specs.Profile.{is_profile}
use Rattle.joint_tick.specs.SetUp.{set_up, exchange}
use Rattle.joint_tick.specs.Tick.{reference_at}
use Rattle.image.specs.Layout.{image_bytes, setup_fc, setup_fs, setup_profile, setup_bytes, leg_bytes}
use Rattle.image.specs.Parts.{leg_at}
use Rattle.image.specs.Image.{fixed_at, state_at, image_of}
use Rattle.image.specs.Inputs.{setup_at}
use Rattle.outcome.specs.Outcomes.{Outcome}
use Rattle.outcome.specs.Outcomes.{Done}
use Rattle.outcome.specs.declared.Refusal.TheVariants.{ImageLength, InputLength, BrokenImage, BadProfile, PassThrough}
use Rattle.outcome.specs.Outcomes.{Table, first_of, differs, left_unless, Filled, Called}
use Rattle.lent_tick.specs.Unbroken.{unbroken}
use Rattle.lent_tick.specs.Tick.{tick_refusal, tick_from}

-- ---- what is refused: the first row that holds, and so the lowest number

-- of set-up, which does not look at the image's bytes
abbrev pub set_up_table : ℕ → List ℕ → Table
set_up_table imageLen input =
    (differs imageLen image_bytes, ImageLength)
    ∷ (differs (length input) setup_bytes, InputLength)
    ∷ (not (is_profile (word input setup_profile)), BadProfile)
    ∷ (passes_through (float input setup_fc) (float input setup_fs), PassThrough)
    ∷ []

-- of an exchange, whose image is judged as a tick's is
abbrev pub exchange_table : List ℕ → ℕ → Table
exchange_table image segmentLen =
    (differs (length image) image_bytes, ImageLength)
    ∷ (differs segmentLen leg_bytes, InputLength)
    ∷ (not (unbroken image), BrokenImage)
    ∷ []

unfoldable pub set_up_refusal : ℕ → List ℕ → Outcome
set_up_refusal imageLen input = first_of (set_up_table imageLen input)

unfoldable pub exchange_refusal : List ℕ → ℕ → Outcome
exchange_refusal image segmentLen = first_of (exchange_table image segmentLen)

-- a set-up's input that is not refused
abbrev pub SetsUp : List ℕ → Type 0
SetsUp setup = set_up_refusal image_bytes setup ≡ Done

-- ---- what a call leaves

unfoldable pub set_up_call : List ℕ → List ℕ → Filled
unfolding set_up_refusal
set_up_call image input = left_unless (set_up_refusal (length image) input) (image_of (set_up (setup_at input))) image

unfoldable pub exchange_call : List ℕ → List ℕ → Filled
unfolding exchange_refusal
exchange_call image segment = left_unless (exchange_refusal image (length segment)) (image_of (exchange (state_at image) (leg_at segment 0))) image

-- a tick by references from the image's own segment
abbrev pub on_segment : List ℕ → Float → Reference
on_segment image time = reference_at (fixed_at image).segment time

unfoldable pub tick_call : List ℕ → List ℕ → List ℕ → Called
tick_call image input answer = tick_from (on_segment image) (tick_refusal image (length input) (length answer)) image input answer
