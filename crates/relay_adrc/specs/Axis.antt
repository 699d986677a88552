-- `AdrcAxis` of document 002, and what mends its inputs. Definitions only.
use Rattle.std.specs.Prelude.{◌&&◌, cond, Float}
use Rattle.std.specs.Float.Ieee.{lt}
use Rattle.relay_math.specs.F32.{◌⊕◌, ◌⊖◌, ◌⊗◌, ◌⊘◌, f32, 0·0, 1e-3, 0·1, 1·0, 2·0, 3·0, is_finite, finite_or, finite_above, above_or, clamp_or, fabsf}
use Rattle.relay_adrc.specs.declared.gains.AdrcGains.{AdrcGains}
use Rattle.relay_adrc.specs.declared.axis.AdrcAxis.{AdrcAxis}
use Rattle.relay_adrc.specs.declared.axis.AxisTick.{AxisTick}

abbrev pub 1e-4 : Float
1e-4 = f32 0x38d1_b717

abbrev pub 10·0 : Float
10·0 = f32 0x4120_0000

abbrev pub mend_dt : Float → Float
mend_dt dt = clamp_or dt 1e-4 0·1 1e-3

abbrev pub positive_or : Float → Float → Float
positive_or x d = above_or 0·0 x d

abbrev pub mend_b0 : Float → Float
mend_b0 b0 = cond (is_finite b0 && lt 1e-3 (fabsf b0)) b0 1·0

abbrev pub lag : Float → Float → Float → Float → Float
lag uAct uDelivered tau dt = cond (finite_above 1e-4 tau) (uAct ⊕ dt ⊗ (uDelivered ⊖ uAct) ⊘ tau) uDelivered

abbrev pub delivered_fraction : Float → Float
delivered_fraction frac = clamp_or frac 0·0 1·0 1·0

abbrev pub axis_new : AdrcGains → AdrcAxis
axis_new g = record { z1 = 0·0; z2 = 0·0; u_prev = 0·0; u_act = 0·0; u_delivered_frac = 1·0; g = g }

unfoldable pub axis_tick : AdrcAxis → Float → Float → Float → AxisTick
axis_tick a omegaMeas omegaD dtGiven =
    let dt = mend_dt dtGiven in
    let om = finite_or omegaMeas 0·0 in
    let od = finite_or omegaD 0·0 in
    let ωo = positive_or a.g.omega_o 10·0 in
    let ωc = positive_or a.g.omega_c 3·0 in
    let b0 = mend_b0 a.g.b0 in
    let β1 = 2·0 ⊗ ωo in
    let β2 = ωo ⊗ ωo in
    let kp = ωc in
    let uDelivered = a.u_prev ⊗ a.u_delivered_frac in
    let uAct = finite_or (lag a.u_act uDelivered a.g.tau dt) 0·0 in
    let e = om ⊖ a.z1 in
    let z1 = finite_or (a.z1 ⊕ dt ⊗ (a.z2 ⊕ b0 ⊗ uAct ⊕ β1 ⊗ e)) 0·0 in
    let z2 = finite_or (a.z2 ⊕ dt ⊗ (β2 ⊗ e)) 0·0 in
    let u = finite_or ((kp ⊗ (od ⊖ z1) ⊖ z2) ⊘ b0) 0·0 in
    record {
      axis = record { z1 = z1; z2 = z2; u_prev = u; u_act = uAct; u_delivered_frac = a.u_delivered_frac; g = a.g };
      u = u;
    }

abbrev pub axis_reset : AdrcAxis → AdrcAxis
axis_reset a = axis_new a.g

abbrev pub axis_set_delivered_fraction : AdrcAxis → Float → AdrcAxis
axis_set_delivered_fraction a frac =
    record { z1 = a.z1; z2 = a.z2; u_prev = a.u_prev; u_act = a.u_act; u_delivered_frac = delivered_fraction frac; g = a.g }
