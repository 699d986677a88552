-- What a tick on bytes does in a run, from any source of references and refused for anything: it steps the shield by its margin, or keeps it, and its
-- clock does not go back. A call that is such a tick needs no other lemma about runs. Assumes nothing.
use Rattle.laws.proofs.Prelude.{◌≡◌, refl, ap, ◌∙◌, List, [], ◌∷◌, ℕ, T, Float, le}
use Rattle.words.specs.Words.{float}
use Rattle.latch.specs.Latch.{after}
use Rattle.relay_math.proofs.Order.{le_refl_of}
use Rattle.relay_traj.{specs.Governor.Running, proofs.GovernorClock.never_nan}
use Rattle.joint_tick.specs.{declared.{state.{State.State, TickInput.TickInput}, stages.Reference.Reference}, Tick.{guidance, state_after, shield_of as shieldOfState}}
use Rattle.joint_tick.proofs.{Shielding.{tick_latch, tick_keeps_flag}, TickClock.time_never_back}
use Rattle.outcome.{specs.{Outcomes.Outcome, Outcomes.Called}, proofs.Tables.either}
use Rattle.image.{specs.{Layout.GOVERNOR, Parts.governor_at, Image.{moving_at, state_at, image_of}, Inputs.input_at}, proofs.Decoded.{decode_encode, time_written, state_fits}}
use Rattle.lent_tick.specs.{Unbroken.Unbroken, Tick.tick_from, Steps.{margins_if, shield_at, stepped, Steps}}
use Rattle.lent_tick.proofs.{RowFour.unbroken_has, NeverRefused.{tick_fits, tick_never_refused}}

-- the time that an image holds is one that a governor can have
pub image_runs : (image : List ℕ) → Unbroken image → Running (float image GOVERNOR)
unfolding moving_at governor_at
image_runs image u = (unbroken_has image u).state.time

module _ (source : Float → Reference) (o : Outcome) (image input answer : List ℕ) (u : Unbroken image) where
  abbrev s : State
  s = state_at image

  abbrev i : TickInput
  i = input_at input

  abbrev next : State
  next = state_after source s i

  abbrev m : Float
  m = (guidance source s i).margin

  shield_left : shield_at (image_of next) ≡ stepped (shield_at image) (m ∷ [])
  unfolding after
  shield_left =
      ap shieldOfState (decode_encode next (tick_fits source s input (state_fits image)))
      ∙ rw (tick_keeps_flag source s i, tick_latch source s i)

  pub tick_steps : Steps (margins_if (tick_from source o image input answer) m) image (tick_from source o image input answer).later.image
  unfolding after tick_from
  tick_steps =
      either (λ (c : Called). Steps (margins_if c m) image c.later.image) o
      (λ e. record { unbroken = tick_never_refused source image input u; shield = shield_left })
      (λ e. rw e record { unbroken = u; shield = refl })

  pub tick_clock : T (le (float image GOVERNOR) (float (tick_from source o image input answer).later.image GOVERNOR))
  unfolding moving_at governor_at tick_from
  tick_clock =
      let written = time_written next (tick_fits source s input (state_fits image)).governor.0 in
      either (λ (c : Called). T (le (float image GOVERNOR) (float c.later.image GOVERNOR))) o
      (λ e. rw written (time_never_back source s i (unbroken_has image u).state.time).0)
      (λ e. le_refl_of _ (never_nan (image_runs image u)))
