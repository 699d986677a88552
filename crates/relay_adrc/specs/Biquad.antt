-- `Biquad` and `GyroLpf` of document 002. Definitions only.
use Rattle.std.specs.Prelude.{Bool, not, ◌||◌, cond, Float}
use Rattle.std.specs.Float.Ieee.{lt, le, neg}
use Rattle.relay_math.specs.F32.{◌⊕◌, ◌⊖◌, ◌⊗◌, ◌⊘◌, f32, 0·0, 0·5, 1·0, 2·0, finite_or}
use Rattle.relay_math.specs.Steps.{sinf, cosf}
use Rattle.relay_math.specs.declared.BodyRate.{BodyRate}
use Rattle.relay_adrc.specs.declared.biquad.Biquad.{Biquad}
use Rattle.relay_adrc.specs.declared.biquad.Filtered.{Filtered}
use Rattle.relay_adrc.specs.declared.biquad.GyroLpf.{GyroLpf}
use Rattle.relay_adrc.specs.declared.biquad.GyroFiltered.{GyroFiltered}

abbrev pub PI : Float
PI = f32 0x4049_0fdb

abbrev pub frac_1_sqrt_2 : Float
frac_1_sqrt_2 = f32 0x3f35_04f3

abbrev pub passes_through : Float → Float → Bool
passes_through fc fs = not (lt 0·0 fc) || not (lt 0·0 fs) || le (0·5 ⊗ fs) fc

abbrev pub passthrough : Biquad
passthrough =
    record { b0 = 1·0; b1 = 0·0; b2 = 0·0; a1 = 0·0; a2 = 0·0; x1 = 0·0; x2 = 0·0; y1 = 0·0; y2 = 0·0 }

-- the filter of an angle per sample
unfoldable pub lowpass_at : Float → Biquad
lowpass_at w0 =
    let sw = sinf w0 in
    let cw = cosf w0 in
    let q = frac_1_sqrt_2 in
    let alpha = sw ⊘ (2·0 ⊗ q) in
    let a0 = 1·0 ⊕ alpha in
    record {
      b0 = ((1·0 ⊖ cw) ⊗ 0·5) ⊘ a0;
      b1 = (1·0 ⊖ cw) ⊘ a0;
      b2 = ((1·0 ⊖ cw) ⊗ 0·5) ⊘ a0;
      a1 = (neg 2·0 ⊗ cw) ⊘ a0;
      a2 = (1·0 ⊖ alpha) ⊘ a0;
      x1 = 0·0;
      x2 = 0·0;
      y1 = 0·0;
      y2 = 0·0;
    }

unfoldable pub lowpass : Float → Float → Biquad
unfolding lowpass_at
lowpass fc fs = cond (passes_through fc fs) passthrough (lowpass_at (2·0 ⊗ PI ⊗ fc ⊘ fs))

unfoldable pub biquad_filter : Biquad → Float → Filtered
biquad_filter f xGiven =
    let x = finite_or xGiven 0·0 in
    let y = finite_or (f.b0 ⊗ x ⊕ f.b1 ⊗ f.x1 ⊕ f.b2 ⊗ f.x2 ⊖ f.a1 ⊗ f.y1 ⊖ f.a2 ⊗ f.y2) 0·0 in
    record {
      biquad = record { b0 = f.b0; b1 = f.b1; b2 = f.b2; a1 = f.a1; a2 = f.a2; x1 = x; x2 = f.x1; y1 = y; y2 = f.y1 };
      y = y;
    }

unfoldable pub gyro_new : Float → Float → GyroLpf
unfolding lowpass
gyro_new fc fs =
    let b = lowpass fc fs in
    record { roll = b; pitch = b; yaw = b }

unfoldable pub gyro_filter : GyroLpf → BodyRate → GyroFiltered
unfolding biquad_filter
gyro_filter f gyro =
    let roll = biquad_filter f.roll gyro.0.0 in
    let pitch = biquad_filter f.pitch gyro.0.1 in
    let yaw = biquad_filter f.yaw gyro.0.2 in
    record {
      lpf = record { roll = roll.biquad; pitch = pitch.biquad; yaw = yaw.biquad };
      rate = record { 0 = (roll.y, pitch.y, yaw.y) };
    }
