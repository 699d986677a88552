-- Only inner functions promise these, for speed: whoever reads what is claimed need not read them. Definitions only.
use Rattle.std.specs.Prelude.{Float}
use Rattle.relay_math.specs.F32.{0·0}
use Rattle.relay_math.specs.declared.BodyRate.{BodyRate}
use Rattle.relay_adrc.specs.declared.axis.AdrcAxis.{AdrcAxis}
use Rattle.relay_adrc.specs.declared.axis.Observed.{Observed}
use Rattle.relay_adrc.specs.declared.axis.AxisTick.{AxisTick}
use Rattle.relay_adrc.specs.declared.rate.AdrcRate.{AdrcRate}
use Rattle.relay_adrc.specs.declared.rate.RateTick.{RateTick}
use Rattle.relay_adrc.specs.Inner.{axis_observe, axis_act}
use Rattle.joint_tick.specs.declared.profile.Profile.{Profile}
use Rattle.joint_tick.specs.declared.profile.Profile.TheVariants.{Whole, LostRotor}
use Rattle.joint_tick.specs.declared.state.Fixed.{Fixed}
use Rattle.joint_tick.specs.declared.stages.Prepared.{Prepared}
use Rattle.joint_tick.specs.declared.stages.Guided.{Guided}
use Rattle.joint_tick.specs.declared.stages.Observed3.{Observed3}
use Rattle.joint_tick.specs.declared.stages.Ticked.{Ticked}
use Rattle.joint_tick.specs.Tick.{shielded, ticked_of}

-- ---- the pick with ADRC's tick in its two halves, of which the first needs no pick: `pick_in_halves` of proofs/Once.antt

abbrev pub observe_third : Profile → AdrcAxis → Float → Float → Observed
observe_third Whole axis measured dt = axis_observe axis measured dt
observe_third LostRotor axis measured dt = record { z1 = axis.z1; z2 = axis.z2; u_act = axis.u_act }

abbrev pub act_third : Profile → AdrcAxis → Observed → Float → AxisTick
act_third Whole axis o wanted = axis_act axis o wanted
act_third LostRotor axis o wanted = record { axis = axis; u = 0·0 }

unfoldable pub observe : Profile → AdrcRate → BodyRate → Float → Observed3
observe profile r measured dt =
    record {
      roll = axis_observe r.roll measured.0.0 dt;
      pitch = axis_observe r.pitch measured.0.1 dt;
      yaw = observe_third profile r.yaw measured.0.2 dt;
    }

unfoldable pub follow_on : Profile → AdrcRate → Observed3 → BodyRate → RateTick
follow_on profile r o wanted =
    let roll = axis_act r.roll o.roll wanted.0.0 in
    let pitch = axis_act r.pitch o.pitch wanted.0.1 in
    let yaw = act_third profile r.yaw o.yaw wanted.0.2 in
    record {
      rate = record { roll = roll.axis; pitch = pitch.axis; yaw = yaw.axis };
      torque = record { 0 = (roll.u, pitch.u, yaw.u) };
    }

unfoldable pub pick_on : Fixed → Prepared → Observed3 → Guided → Ticked
pick_on f p o g =
    let shielded = shielded f p g in
    ticked_of p g shielded (follow_on f.profile p.moving.rate o shielded.command)
