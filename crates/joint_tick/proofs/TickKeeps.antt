-- What a tick keeps of what moves. Assumes nothing.
use Rattle.laws.proofs.Prelude.{◌≡◌, refl, Float}
use Rattle.relay_adrc.specs.{declared.axis.AdrcAxis.AdrcAxis, Axis.axis_tick}
use Rattle.joint_tick.specs.declared.{profile.Profile.{Profile, TheVariants.{Whole, LostRotor}}, state.{Moving.Moving, State.State, TickInput.TickInput}, stages.Reference.Reference}
use Rattle.joint_tick.specs.Tick.{fraction_third, prepare, tick_third, follow, pick, guide_pick_follow, ticked, state_after}

-- ADRC's gains. (What is fixed is no part of what it leaves.)
pub record Kept (s t : Moving) : Type 0 where
  pub roll : t.rate.roll.g ≡ s.rate.roll.g
  pub pitch : t.rate.pitch.g ≡ s.rate.pitch.g
  pub yaw : t.rate.yaw.g ≡ s.rate.yaw.g

third_keeps : (p : Profile) (a : AdrcAxis) (fraction measured wanted dt : Float) → (tick_third p (fraction_third p a fraction) measured wanted dt).axis.g ≡ a.g
unfolding axis_tick
third_keeps Whole a fraction measured wanted dt = refl
third_keeps LostRotor a fraction measured wanted dt = refl

pub tick_keeps : (source : Float → Reference) (s : State) (i : TickInput) → Kept s.moving (state_after source s i).moving
unfolding ticked prepare guide_pick_follow pick follow axis_tick
tick_keeps source s i = record { roll = refl; pitch = refl; yaw = third_keeps s.fixed.profile s.moving.rate.yaw _ _ _ _ }
