-- Only inner functions promise these, for speed: whoever reads what is claimed need not read them. Definitions only.
use Rattle.std.specs.Prelude.{Float}
use Rattle.relay_math.specs.F32.{◌⊕◌, ◌⊖◌, ◌⊗◌, ◌⊘◌, 0·0, 2·0, 3·0, finite_or}
use Rattle.relay_adrc.specs.declared.axis.AdrcAxis.{AdrcAxis}
use Rattle.relay_adrc.specs.declared.axis.Observed.{Observed}
use Rattle.relay_adrc.specs.declared.axis.AxisTick.{AxisTick}
use Rattle.relay_adrc.specs.Axis.{10·0, positive_or, mend_dt, mend_b0, lag}

-- ---- an axis's tick in two halves, the observer's and the control's: `tick_in_halves` of proofs/Ticks.antt

unfoldable pub axis_observe : AdrcAxis → Float → Float → Observed
axis_observe a omegaMeas dtGiven =
    let dt = mend_dt dtGiven in
    let om = finite_or omegaMeas 0·0 in
    let ωo = positive_or a.g.omega_o 10·0 in
    let b0 = mend_b0 a.g.b0 in
    let β1 = 2·0 ⊗ ωo in
    let β2 = ωo ⊗ ωo in
    let uDelivered = a.u_prev ⊗ a.u_delivered_frac in
    let uAct = finite_or (lag a.u_act uDelivered a.g.tau dt) 0·0 in
    let e = om ⊖ a.z1 in
    record {
      z1 = finite_or (a.z1 ⊕ dt ⊗ (a.z2 ⊕ b0 ⊗ uAct ⊕ β1 ⊗ e)) 0·0;
      z2 = finite_or (a.z2 ⊕ dt ⊗ (β2 ⊗ e)) 0·0;
      u_act = uAct;
    }

unfoldable pub axis_act : AdrcAxis → Observed → Float → AxisTick
axis_act a o omegaD =
    let od = finite_or omegaD 0·0 in
    let kp = positive_or a.g.omega_c 3·0 in
    let u = finite_or ((kp ⊗ (od ⊖ o.z1) ⊖ o.z2) ⊘ mend_b0 a.g.b0) 0·0 in
    record {
      axis = record { z1 = o.z1; z2 = o.z2; u_prev = u; u_act = o.u_act; u_delivered_frac = a.u_delivered_frac; g = a.g };
      u = u;
    }
