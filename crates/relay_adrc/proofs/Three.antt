-- What holds of each axis, cited for the three. Assumes nothing.
use Rattle.laws.proofs.Prelude.{T, Float}
use Rattle.relay_math.specs.{F32.is_finite, declared.{Vec3.Vec3, BodyRate.BodyRate}}
use Rattle.relay_adrc.specs.{declared.{rate.AdrcRate.AdrcRate, biquad.GyroLpf.GyroLpf}, Biquad.gyro_filter, Rate.rate_tick}
use Rattle.relay_adrc.proofs.{Ticks.tick_finite, Lowpass.output_finite}

abbrev AllFinite : Vec3 → Type 0
AllFinite v = T (is_finite v.0) × T (is_finite v.1) × T (is_finite v.2)

pub torque_finite : (r : AdrcRate) (measured wanted : BodyRate) (dt : Float) → AllFinite (rate_tick r measured wanted dt).torque.0
unfolding rate_tick
torque_finite r m w dt = ((tick_finite r.roll _ _ dt).u, (tick_finite r.pitch _ _ dt).u, (tick_finite r.yaw _ _ dt).u)

pub filtered_rate_finite : (f : GyroLpf) (gyro : BodyRate) → AllFinite (gyro_filter f gyro).rate.0
unfolding gyro_filter
filtered_rate_finite f gyro = (output_finite f.roll _, output_finite f.pitch _, output_finite f.yaw _)
