-- What the routines make of f32 values are f32 values: the premise of `decode_encode` holds of every state that set-up and ticks make. Assumes nothing.
use Rattle.laws.proofs.Prelude.{Bool, true, false, cond, Float}
use lib.Ieee.{Fits.{cond-fits, add-fits, sub-fits, mul-fits, div-fits}, Bits.of_bits-fits}
use Rattle.relay_math.specs.declared.{Vec3.Vec3, BodyRate.BodyRate}
use Rattle.relay_geo.specs.{declared.set.RecoverableSet.RecoverableSet, Shield.new_shield}
use Rattle.relay_traj.specs.{declared.{governor.RefGovernor.RefGovernor, quintic.Quintic.Quintic, segment.Segment3.Segment3}, Governor.{governor, advance}, Quintic.{quintic, peak_abs_jerk}}
use Rattle.relay_traj.specs.Segment.{segment, peak_abs_jerk3}
use Rattle.relay_adrc.specs.declared.{gains.AdrcGains.AdrcGains, axis.AdrcAxis.AdrcAxis, rate.AdrcRate.AdrcRate, biquad.{Biquad.Biquad, GyroLpf.GyroLpf}}
use Rattle.relay_adrc.specs.{Axis.{axis_new, axis_tick, axis_set_delivered_fraction}, Rate.rate_new, Biquad.{passes_through, passthrough, lowpass_at, lowpass, biquad_filter, gyro_new, gyro_filter}}
use Rattle.joint_tick.specs.{declared.profile.Profile.{Profile, TheVariants.{Whole, LostRotor}}, Tick.{fraction_third, fractions, tick_third, follow}}
use Rattle.image.specs.Fits.{F32, FitsVec, FitsGovernor, FitsQuintic, FitsSegment, FitsAdrcGains, FitsAxis, FitsRate, FitsBiquad, FitsLpf}

-- each operation rounds to an f32, a literal is one, and a choice of two is one of them
pub ruleset fitting = (cond-fits, add-fits, sub-fits, mul-fits, div-fits, of_bits-fits)

-- ---- the thresholds

pub new_shield_fits : (set : RecoverableSet) (enter exit : Float) → F32 enter → F32 exit → let h = new_shield set enter exit in F32 h.enter × F32 h.exit
unfolding new_shield
new_shield_fits set enter exit f g = search fitting

-- ---- the governor

pub governor_fits : (lo hi g : Float) → F32 lo → F32 hi → F32 g → FitsGovernor (governor lo hi g)
governor_fits lo hi g a b c = search fitting

pub advance_fits : (g : RefGovernor) (err dt : Float) → FitsGovernor g → FitsGovernor (advance g err dt).governor
unfolding advance
advance_fits g err dt f = search fitting

-- ---- the segment

pub quintic_fits : (p0 v0 a0 pf vf af t : Float) → F32 p0 → F32 v0 → F32 a0 → F32 t → FitsQuintic (quintic p0 v0 a0 pf vf af t)
unfolding quintic
quintic_fits p0 v0 a0 pf vf af t f g h l = search fitting

pub segment_fits : (p0 v0 a0 pf vf af : Vec3) (t : Float) → FitsVec p0 → FitsVec v0 → FitsVec a0 → F32 t → FitsSegment (segment p0 v0 a0 pf vf af t)
unfolding segment
segment_fits p0 v0 a0 pf vf af t f g h l = (search quintic_fits, search quintic_fits, search quintic_fits)

-- its peaks, whatever its numbers are
peak_fits : (q : Quintic) → F32 (peak_abs_jerk q)
unfolding peak_abs_jerk
peak_fits q = search fitting

pub peaks_fit : (g : Segment3) → FitsVec (peak_abs_jerk3 g)
unfolding peak_abs_jerk3
peaks_fit g = search peak_fits

-- ---- ADRC

pub axis_new_fits : (g : AdrcGains) → FitsAdrcGains g → FitsAxis (axis_new g)
axis_new_fits g f = search fitting

pub axis_fraction_fits : (a : AdrcAxis) (x : Float) → FitsAxis a → F32 x → FitsAxis (axis_set_delivered_fraction a x)
axis_fraction_fits a x f h = search fitting

pub axis_tick_fits : (a : AdrcAxis) (m d dt : Float) → FitsAxis a → FitsAxis (axis_tick a m d dt).axis
unfolding axis_tick
axis_tick_fits a m d dt f = search fitting

pub rate_new_fits : (x y z : AdrcGains) → FitsAdrcGains x → FitsAdrcGains y → FitsAdrcGains z → FitsRate (rate_new x y z)
rate_new_fits x y z f g h = (axis_new_fits x f, axis_new_fits y g, axis_new_fits z h)

third_fraction_fits : (p : Profile) (a : AdrcAxis) (x : Float) → FitsAxis a → F32 x → FitsAxis (fraction_third p a x)
third_fraction_fits Whole a x f h = axis_fraction_fits a x f h
third_fraction_fits LostRotor a x f h = f

pub rate_fraction_fits : (p : Profile) (r : AdrcRate) (v : Vec3) → FitsRate r → FitsVec v → FitsRate (fractions p r v)
rate_fraction_fits p r v f g =
    let at = axis_fraction_fits in
    (at r.roll v.0 f.0 g.0, at r.pitch v.1 f.1 g.1.0, third_fraction_fits p r.yaw v.2 f.2 g.1.1.0)

third_tick_fits : (p : Profile) (a : AdrcAxis) (m d dt : Float) → FitsAxis a → FitsAxis (tick_third p a m d dt).axis
third_tick_fits Whole a m d dt f = axis_tick_fits a m d dt f
third_tick_fits LostRotor a m d dt f = f

pub rate_tick_fits : (p : Profile) (r : AdrcRate) (m d : BodyRate) (dt : Float) → FitsRate r → FitsRate (follow p r m d dt).rate
unfolding follow
rate_tick_fits p r m d dt f =
    let at = axis_tick_fits in
    (at r.roll m.0.0 d.0.0 dt f.0, at r.pitch m.0.1 d.0.1 dt f.1, third_tick_fits p r.yaw m.0.2 d.0.2 dt f.2)

-- ---- the filter

lowpass_at_fits : (w : Float) → FitsBiquad (lowpass_at w)
unfolding lowpass_at
lowpass_at_fits w = search fitting

either_fits : (b : Bool) (p q : Biquad) → FitsBiquad p → FitsBiquad q → FitsBiquad (cond b p q)
either_fits true p q f g = f
either_fits false p q f g = g

through_fits : FitsBiquad passthrough
through_fits = search fitting

pub lowpass_fits : (fc fs : Float) → FitsBiquad (lowpass fc fs)
unfolding lowpass
lowpass_fits fc fs = either_fits (passes_through fc fs) passthrough _ through_fits (lowpass_at_fits _)

pub gyro_new_fits : (fc fs : Float) → FitsLpf (gyro_new fc fs)
unfolding gyro_new
gyro_new_fits fc fs = let f = lowpass_fits fc fs in (f, f, f)

pub biquad_filter_fits : (q : Biquad) (x : Float) → FitsBiquad q → F32 x → FitsBiquad (biquad_filter q x).biquad
unfolding biquad_filter
biquad_filter_fits q x f h = search fitting

pub gyro_filter_fits : (l : GyroLpf) (g : BodyRate) → FitsLpf l → FitsVec g.0 → FitsLpf (gyro_filter l g).lpf
unfolding gyro_filter
gyro_filter_fits l g f h =
    let at = biquad_filter_fits in
    (at l.roll g.0.0 f.0 h.0, at l.pitch g.0.1 f.1 h.1.0, at l.yaw g.0.2 f.2 h.1.1.0)
