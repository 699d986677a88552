-- Any run from set-up, by one induction: each image is unbroken, and its shield is set-up's, stepped by the margins. Assumes nothing.
use Rattle.laws.proofs.Prelude.{◌≡◌, refl, sym, ap, ◌∙◌, subst, Bool, true, List, [], ◌∷◌, ◌++◌, ℕ, Float, lt, length}
use Rattle.words.specs.Words.{float}
use Rattle.latch.specs.Latch.{latch, after, engaged_after}
use Rattle.relay_geo.{specs.declared.shield.SimplexShield.SimplexShield, proofs.SetUp.starts_engaged}
use Rattle.joint_tick.{specs.{declared.state.State.State, SetUp.set_up}, proofs.Shielding.tick_latch}
use Rattle.outcome.specs.{Outcomes.{Done, left, Called}}
use Rattle.image.{specs.{Layout.{ENTER, EXIT, image_bytes}, Image.{fixed_at, state_at}, Inputs.{setup_at, input_at}}, proofs.Decoded.decode_encode}
use Rattle.lent_tick.{specs.{Unbroken.Unbroken, Steps.{margins_if, shield_at, stepped, Steps}}, proofs.{RowFour.unbroken_has, NeverRefused.{set_up_fits, set_up_never_refused}, TickSteps.tick_steps}}
use Rattle.calls.{specs.Entry.{SetsUp, set_up_call}, proofs.ExchangeSteps.exchange_steps}
use Rattle.runs.specs.{Runs.{Tick, Call, Ticks, Exchanges, left_by, source_on, guided, margins_by, start, image_after, margins_along}, DemandThree.{enter_of, exit_of}}
use Rattle.runs.proofs.Shown.{refusal_on, flying_is, done}

-- ---- what each call does: another kind of call is a case more

pub call_steps : (image : List ℕ) (c : Call) → Unbroken image → Steps (margins_by image c) image (left_by image c)
unfolding margins_by left_by guided
call_steps image (Exchanges segment) u = exchange_steps image segment u
call_steps image (Ticks t) u =
    subst (λ (c : Called). Steps (margins_if c (guided image t).margin) image c.later.image) (sym (flying_is t.course image t.input t.answer))
    (tick_steps (source_on t.course image) (refusal_on t.course image (length t.input) (length t.answer)) image t.input t.answer u)

-- ---- one after another

after_append : (enter exit : Float) (b : Bool) (ms ns : List Float) → after enter exit (after enter exit b ms) ns ≡ after enter exit b (ms ++ ns)
unfolding after
after_append enter exit b [] ns = refl
after_append enter exit b (m ∷ ms) ns = after_append enter exit (latch enter exit b m) ms ns

stepped_append : (h : SimplexShield) (ms ns : List Float) → stepped (stepped h ms) ns ≡ stepped h (ms ++ ns)
stepped_append h ms ns = rw (after_append h.enter h.exit h.engaged ms ns)

pub run_steps : (image : List ℕ) (calls : List Call) → Unbroken image → Steps (margins_along image calls) image (image_after image calls)
unfolding margins_along image_after after
run_steps image [] u = record { unbroken = u; shield = refl }
run_steps image (c ∷ calls) u =
    let one = call_steps image c u in
    let more = run_steps (left_by image c) calls one.unbroken in
    record {
      unbroken = more.unbroken;
      shield =
          more.shield
          ∙ ap (λ (h : SimplexShield). stepped h (margins_along (left_by image c) calls)) one.shield
          ∙ stepped_append (shield_at image) (margins_by image c) (margins_along (left_by image c) calls);
    }

-- ---- from set-up on

-- the image that an accepted set-up leaves is the one that runs start at
pub set_up_starts : (image setup : List ℕ) → length image ≡ image_bytes → SetsUp setup → set_up_call image setup ≡ left Done (start setup)
unfolding set_up_call start
set_up_starts image setup p e = rw (p, e)

module _ (setup : List ℕ) where
  pub start_unbroken : Unbroken (start setup)
  unfolding start
  start_unbroken = set_up_never_refused setup

  pub start_engaged : (shield_at (start setup)).engaged ≡ true
  unfolding start set_up
  start_engaged =
      let i = setup_at setup in
      ap (λ (s : State). s.moving.engaged) (decode_encode (set_up i) (set_up_fits setup)) ∙ starts_engaged i.set i.enter i.exit

  pub thresholds_in_order : lt (enter_of setup) (exit_of setup) ≡ true
  unfolding fixed_at
  thresholds_in_order = (unbroken_has (start setup) start_unbroken).state.exit

  module _ (calls : List Call) where
    abbrev image : List ℕ
    image = image_after (start setup) calls

    pub ran : Steps (margins_along (start setup) calls) (start setup) image
    ran = run_steps (start setup) calls start_unbroken

    -- every later image keeps the thresholds
    pub thresholds_kept : (float image ENTER ≡ enter_of setup) × (float image EXIT ≡ exit_of setup)
    unfolding fixed_at
    thresholds_kept = (ap (λ (h : SimplexShield). h.enter) ran.shield, ap (λ (h : SimplexShield). h.exit) ran.shield)

    module _ (t : Tick) where
      -- the flag at a tick then: the latch of its margin, by whoever had control before ..
      pub latched : (done image t).answer.fallback ≡ latch (enter_of setup) (exit_of setup) (shield_at image).engaged (guided image t).margin
      unfolding guided fixed_at
      latched =
          tick_latch (source_on t.course image) (state_at image) (input_at t.input)
          ∙ rw (thresholds_kept.0, thresholds_kept.1)

      -- .. and so by the margins of the whole run
      pub latched_along : (done image t).answer.fallback ≡ engaged_after (enter_of setup) (exit_of setup) (margins_along (start setup) calls ++ (guided image t).margin ∷ [])
      unfolding after fixed_at
      latched_along =
          latched
          ∙ rw (ap (λ (h : SimplexShield). h.engaged) ran.shield, start_engaged)
          (after_append (enter_of setup) (exit_of setup) true (margins_along (start setup) calls) ((guided image t).margin ∷ []))
