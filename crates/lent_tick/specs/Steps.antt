-- What runs are said by: what a call does to the shield of the image that it is handed. Definitions only.
use Rattle.std.specs.Prelude.{ℕ, ◌≡◌, cond, List, [], ◌∷◌, Float}
use Rattle.latch.specs.Latch.{after}
use Rattle.relay_geo.specs.declared.shield.SimplexShield.{SimplexShield}
use Rattle.joint_tick.specs.Tick.{shield_of as shieldOfState}
use Rattle.image.specs.Image.{state_at}
use Rattle.outcome.specs.Outcomes.{is_done, Called}
use Rattle.lent_tick.specs.Unbroken.{Unbroken}

-- the margins that a tick steps the shield by: its own if it is accepted, else none
abbrev pub margins_if : Called → Float → List Float
margins_if c margin = cond (is_done c.outcome) (margin ∷ []) []

-- the shield of an image, and a shield after it was stepped by margins
abbrev pub shield_at : List ℕ → SimplexShield
shield_at image = shieldOfState (state_at image)

abbrev pub stepped : SimplexShield → List Float → SimplexShield
stepped h ms = record { set = h.set; engaged = after h.enter h.exit h.engaged ms; enter = h.enter; exit = h.exit }

-- A call that was handed the image and left `later` stepped the shield by those margins and did nothing else to it; what it left is unbroken.
pub record Steps (ms : List Float) (image later : List ℕ) : Type 0 where
  pub unbroken : Unbroken later
  pub shield : shield_at later ≡ stepped (shield_at image) ms
