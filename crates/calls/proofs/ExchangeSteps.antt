-- What an exchange does in a run. Assumes nothing.
use Rattle.laws.proofs.Prelude.{◌≡◌, refl, ap, List, [], ℕ, length}
use Rattle.latch.specs.Latch.{after}
use Rattle.joint_tick.specs.{SetUp.exchange, Tick.shield_of as shieldOfState}
use Rattle.outcome.{specs.Outcomes.Filled, proofs.Tables.either}
use Rattle.image.{specs.{Parts.leg_at, Image.{state_at, image_of}}, proofs.Decoded.{decode_encode, state_fits}}
use Rattle.lent_tick.{specs.{Unbroken.Unbroken, Steps.{shield_at, Steps}}, proofs.NeverRefused.{exchange_fits, exchange_never_refused}}
use Rattle.calls.specs.Entry.{exchange_refusal, exchange_call}

-- An exchange steps the shield by no margin: "the exchange leaves shield, ADRC and filters as they were".
pub exchange_steps : (image segment : List ℕ) → Unbroken image → Steps [] image (exchange_call image segment).later
unfolding after exchange_call exchange
exchange_steps image segment u =
    either (λ (l : Filled). Steps [] image l.later) (exchange_refusal image (length segment))
    (λ e. record { unbroken = exchange_never_refused image segment u; shield = kept })
    (λ e. record { unbroken = u; shield = refl })
  where
    kept : shield_at (image_of (exchange (state_at image) (leg_at segment 0))) ≡ shield_at image
    kept = ap shieldOfState (decode_encode (exchange (state_at image) (leg_at segment 0)) (exchange_fits (state_at image) segment (state_fits image)))
