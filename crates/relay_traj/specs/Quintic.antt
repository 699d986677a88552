-- One axis of a trajectory, as 001 has it. Definitions only.
use Rattle.std.specs.Prelude.{T, Float}
use Rattle.std.specs.Float.Ieee.{le, neg}
use Rattle.relay_math.specs.F32.{◌⊕◌, ◌⊖◌, ◌⊗◌, ◌⊘◌, f32, 0·0, 1e-3, 0·5, 1·0, 2·0, 3·0, ∞, is_finite, finite_or, above_or, clamp_or, fabsf}
use Rattle.relay_traj.specs.declared.quintic.Quintic.{Quintic}
use Rattle.relay_traj.specs.declared.quintic.Sample.{Sample}
use Rattle.relay_traj.specs.declared.quintic.Mended.{Mended}
use Rattle.relay_traj.specs.declared.quintic.JerkCoeffs.{JerkCoeffs}

abbrev pub 4·0 : Float
4·0 = f32 0x40800000

abbrev pub 5·0 : Float
5·0 = f32 0x40a00000

abbrev pub 6·0 : Float
6·0 = f32 0x40c00000

abbrev pub 12·0 : Float
12·0 = f32 0x41400000

abbrev pub 20·0 : Float
20·0 = f32 0x41a00000

abbrev pub 24·0 : Float
24·0 = f32 0x41c00000

abbrev pub 60·0 : Float
60·0 = f32 0x42700000

abbrev pub 120·0 : Float
120·0 = f32 0x42f00000

abbrev pub 168·0 : Float
168·0 = f32 0x43280000

abbrev pub 360·0 : Float
360·0 = f32 0x43b40000

abbrev pub 720·0 : Float
720·0 = f32 0x44340000

-- ---- the mending of a leg's numbers on one axis

abbrev pub mended_duration : Float → Float
mended_duration t = above_or 1e-3 t 1e-3

-- a duration as every leg has it: finite, and 1e-3 at least
abbrev pub Lasts : Float → Type 0
Lasts t = T (is_finite t) × T (le 1e-3 t)

unfoldable pub mend_ends : Float → Float → Float → Float → Float → Float → Float → Mended
mend_ends p0 v0 a0 pf vf af t =
    let start = finite_or p0 0·0 in
    record { p0 = start; v0 = finite_or v0 0·0; a0 = finite_or a0 0·0; pf = finite_or pf start; vf = finite_or vf 0·0; af = finite_or af 0·0; t = mended_duration t }

-- ---- Quintic::new

unfoldable pub of_mended : Mended → Quintic
of_mended m =
    let p0 = m.p0 in
    let v0 = m.v0 in
    let a0 = m.a0 in
    let t = m.t in
    let dp = m.pf ⊖ (p0 ⊕ v0 ⊗ t ⊕ 0·5 ⊗ a0 ⊗ t ⊗ t) in
    let dv = m.vf ⊖ (v0 ⊕ a0 ⊗ t) in
    let da = m.af ⊖ a0 in
    let t2 = t ⊗ t in
    let t3 = t ⊗ t ⊗ t in
    let t4 = t ⊗ t ⊗ t ⊗ t in
    let t5 = t ⊗ t ⊗ t ⊗ t ⊗ t in
    let inv = 1·0 ⊘ t5 in
    let alpha = inv ⊗ (720·0 ⊗ dp ⊖ 360·0 ⊗ t ⊗ dv ⊕ 60·0 ⊗ t2 ⊗ da) in
    let beta = inv ⊗ (neg 360·0 ⊗ t ⊗ dp ⊕ 168·0 ⊗ t2 ⊗ dv ⊖ 24·0 ⊗ t3 ⊗ da) in
    let gamma = inv ⊗ (60·0 ⊗ t2 ⊗ dp ⊖ 24·0 ⊗ t3 ⊗ dv ⊕ 3·0 ⊗ t4 ⊗ da) in
    record { c5 = finite_or (alpha ⊘ 120·0) 0·0; c4 = finite_or (beta ⊘ 24·0) 0·0; c3 = finite_or (gamma ⊘ 6·0) 0·0; c2 = a0 ⊘ 2·0; c1 = v0; c0 = p0; t_end = t }

unfoldable pub quintic : Float → Float → Float → Float → Float → Float → Float → Quintic
unfolding mend_ends of_mended
quintic p0 v0 a0 pf vf af t = of_mended (mend_ends p0 v0 a0 pf vf af t)

-- ---- Quintic::eval

unfoldable pub time_on : Float → Float → Float
time_on t end = clamp_or t 0·0 end 0·0

-- the four Horner schemes at a time t on the segment
unfoldable pub sample_at : Quintic → Float → Sample
sample_at q t =
    let c5 = q.c5 in
    let c4 = q.c4 in
    let c3 = q.c3 in
    let c2 = q.c2 in
    let c1 = q.c1 in
    let c0 = q.c0 in
    record {
      p = ((((c5 ⊗ t ⊕ c4) ⊗ t ⊕ c3) ⊗ t ⊕ c2) ⊗ t ⊕ c1) ⊗ t ⊕ c0;
      v = (((5·0 ⊗ c5 ⊗ t ⊕ 4·0 ⊗ c4) ⊗ t ⊕ 3·0 ⊗ c3) ⊗ t ⊕ 2·0 ⊗ c2) ⊗ t ⊕ c1;
      a = ((20·0 ⊗ c5 ⊗ t ⊕ 12·0 ⊗ c4) ⊗ t ⊕ 6·0 ⊗ c3) ⊗ t ⊕ 2·0 ⊗ c2;
      j = (60·0 ⊗ c5 ⊗ t ⊕ 24·0 ⊗ c4) ⊗ t ⊕ 6·0 ⊗ c3;
    }

unfoldable pub eval : Quintic → Float → Sample
unfolding time_on sample_at
eval q t = sample_at q (time_on t q.t_end)

-- ---- the jerk

abbrev pub jerk_coeffs : Quintic → JerkCoeffs
jerk_coeffs q = record { jc2 = 60·0 ⊗ q.c5; jc1 = 24·0 ⊗ q.c4; jc0 = 6·0 ⊗ q.c3 }

unfoldable pub peak_abs_jerk : Quintic → Float
peak_abs_jerk q =
    let k = jerk_coeffs q in
    let t = q.t_end in
    let bound = fabsf k.jc2 ⊗ t ⊗ t ⊕ fabsf k.jc1 ⊗ t ⊕ fabsf k.jc0 in
    finite_or bound ∞
