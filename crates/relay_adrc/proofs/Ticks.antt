-- One tick of one axis, for all bits of everything. Assumes nothing.
use Rattle.laws.proofs.Prelude.{◌≡◌, refl, T, Float}
use Rattle.relay_math.{specs.F32.{◌⊕◌, ◌⊖◌, ◌⊗◌, 0·0, 2·0, is_finite, finite_or}, proofs.FiniteOr.or_zero_finite}
use Rattle.relay_adrc.specs.{declared.axis.{AdrcAxis.AdrcAxis, AxisTick.AxisTick}, Axis.{10·0, mend_dt, positive_or, mend_b0, lag, delivered_fraction, axis_tick, axis_set_delivered_fraction}}
use Rattle.relay_adrc.specs.Inner.{axis_observe, axis_act}

pub record Finite (t : AxisTick) : Type 0 where
  pub z1 : T (is_finite t.axis.z1)
  pub z2 : T (is_finite t.axis.z2)
  pub u_prev : T (is_finite t.axis.u_prev)
  pub u_act : T (is_finite t.axis.u_act)
  pub u : T (is_finite t.u)

module _ (a : AdrcAxis) (omegaMeas omegaD dt : Float) where
  -- the observer's half and then the control's is the whole tick
  pub tick_in_halves : axis_act a (axis_observe a omegaMeas dt) omegaD ≡ axis_tick a omegaMeas omegaD dt
  unfolding axis_act axis_observe axis_tick
  tick_in_halves = refl

  pub tick_finite : Finite (axis_tick a omegaMeas omegaD dt)
  unfolding axis_tick
  tick_finite = record { z1 = or_zero_finite _; z2 = or_zero_finite _; u_prev = or_zero_finite _; u_act = or_zero_finite _; u = or_zero_finite _ }

  -- "The delivered fraction set after one tick is used in the next": there it scales the command of the first, and what drives the observer is the lag of that product.
  pub fraction_scales_the_command_before :
      (frac omegaMeas' omegaD' dt' : Float) →
      (axis_tick (axis_set_delivered_fraction (axis_tick a omegaMeas omegaD dt).axis frac) omegaMeas' omegaD' dt').axis.u_act ≡
      finite_or (lag (axis_tick a omegaMeas omegaD dt).axis.u_act ((axis_tick a omegaMeas omegaD dt).u ⊗ delivered_fraction frac) a.g.tau (mend_dt dt')) 0·0
  unfolding axis_tick
  fraction_scales_the_command_before frac omegaMeas' omegaD' dt' = refl

  -- what the observer takes for its input is that delivered command
  pub observer_sees_the_delivered :
      (axis_tick a omegaMeas omegaD dt).axis.z1 ≡
      finite_or (a.z1 ⊕ mend_dt dt ⊗ (a.z2 ⊕ mend_b0 a.g.b0 ⊗ (axis_tick a omegaMeas omegaD dt).axis.u_act ⊕ 2·0 ⊗ positive_or a.g.omega_o 10·0 ⊗ (finite_or omegaMeas 0·0 ⊖ a.z1))) 0·0
  unfolding axis_tick
  observer_sees_the_delivered = refl
