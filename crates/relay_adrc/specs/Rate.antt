-- `AdrcRate` of document 002: the three axes side by side. Definitions only.
use Rattle.std.specs.Prelude.{Float}
use Rattle.relay_math.specs.F32.{f32, 3·0}
use Rattle.relay_math.specs.declared.Vec3.{Vec3}
use Rattle.relay_math.specs.declared.BodyRate.{BodyRate}
use Rattle.relay_adrc.specs.declared.gains.AdrcGains.{AdrcGains}
use Rattle.relay_adrc.specs.declared.rate.AdrcRate.{AdrcRate}
use Rattle.relay_adrc.specs.declared.rate.RateTick.{RateTick}
use Rattle.relay_adrc.specs.Gains.{with_tau}
use Rattle.relay_adrc.specs.Axis.{axis_new, axis_tick, axis_reset, axis_set_delivered_fraction}

abbrev pub rate_new : AdrcGains → AdrcGains → AdrcGains → AdrcRate
rate_new roll pitch yaw = record { roll = axis_new roll; pitch = axis_new pitch; yaw = axis_new yaw }

-- 40.0, 12.0, 60.0, 0.0125 twice, and 30.0, 3.0, 18.0, 0.025
abbrev pub falcon_quad : AdrcRate
falcon_quad =
    rate_new (with_tau (f32 0x4220_0000) (f32 0x4140_0000) (f32 0x4270_0000) (f32 0x3c4c_cccd))
    (with_tau (f32 0x4220_0000) (f32 0x4140_0000) (f32 0x4270_0000) (f32 0x3c4c_cccd))
    (with_tau (f32 0x41f0_0000) 3·0 (f32 0x4190_0000) (f32 0x3ccc_cccd))

unfoldable pub rate_tick : AdrcRate → BodyRate → BodyRate → Float → RateTick
rate_tick r omegaMeas omegaD dt =
    let roll = axis_tick r.roll omegaMeas.0.0 omegaD.0.0 dt in
    let pitch = axis_tick r.pitch omegaMeas.0.1 omegaD.0.1 dt in
    let yaw = axis_tick r.yaw omegaMeas.0.2 omegaD.0.2 dt in
    record {
      rate = record { roll = roll.axis; pitch = pitch.axis; yaw = yaw.axis };
      torque = record { 0 = (roll.u, pitch.u, yaw.u) };
    }

abbrev pub rate_reset : AdrcRate → AdrcRate
rate_reset r = record { roll = axis_reset r.roll; pitch = axis_reset r.pitch; yaw = axis_reset r.yaw }

abbrev pub rate_set_delivered_fraction : AdrcRate → Vec3 → AdrcRate
rate_set_delivered_fraction r frac =
    record {
      roll = axis_set_delivered_fraction r.roll frac.0;
      pitch = axis_set_delivered_fraction r.pitch frac.1;
      yaw = axis_set_delivered_fraction r.yaw frac.2;
    }

abbrev pub rate_disturbance : AdrcRate → Vec3
rate_disturbance r = (r.roll.z2, r.pitch.z2, r.yaw.z2)
