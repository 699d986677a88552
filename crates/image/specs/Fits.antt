-- Every float of a state is an f32's value. Every state that code holds is so; a theorem about definitions has to say it. Definitions only.
use Rattle.std.specs.Prelude.{T, Float}
use Rattle.std.specs.Float.{binary32}
use Rattle.std.specs.Float.Ieee.{fits}
use Rattle.words.specs.Words.{AllFit, floats_of_vec}
use Rattle.relay_math.specs.declared.Vec3.{Vec3}
use Rattle.relay_geo.specs.declared.controller.GeoGains.{GeoGains}
use Rattle.relay_geo.specs.declared.set.RecoverableSet.{RecoverableSet}
use Rattle.relay_traj.specs.declared.governor.RefGovernor.{RefGovernor}
use Rattle.relay_traj.specs.declared.quintic.Quintic.{Quintic}
use Rattle.relay_traj.specs.declared.segment.Segment3.{Segment3}
use Rattle.relay_adrc.specs.declared.gains.AdrcGains.{AdrcGains}
use Rattle.relay_adrc.specs.declared.axis.AdrcAxis.{AdrcAxis}
use Rattle.relay_adrc.specs.declared.rate.AdrcRate.{AdrcRate}
use Rattle.relay_adrc.specs.declared.biquad.Biquad.{Biquad}
use Rattle.relay_adrc.specs.declared.biquad.GyroLpf.{GyroLpf}
use Rattle.joint_tick.specs.declared.state.State.{State}
use Rattle.image.specs.Parts.{floats_of_gains, floats_of_set, floats_of_governor, floats_of_quintic, floats_of_adrc_gains, floats_of_axis, floats_of_biquad}

abbrev pub F32 : Float → Type 0
F32 x = T (fits binary32 x)

abbrev pub FitsVec : Vec3 → Type 0
FitsVec v = AllFit (floats_of_vec v)

abbrev pub FitsGains : GeoGains → Type 0
FitsGains g = AllFit (floats_of_gains g)

abbrev pub FitsSet : RecoverableSet → Type 0
FitsSet s = AllFit (floats_of_set s)

abbrev pub FitsGovernor : RefGovernor → Type 0
FitsGovernor g = AllFit (floats_of_governor g)

abbrev pub FitsQuintic : Quintic → Type 0
FitsQuintic q = AllFit (floats_of_quintic q)

abbrev pub FitsSegment : Segment3 → Type 0
FitsSegment s = FitsQuintic s.0 × FitsQuintic s.1 × FitsQuintic s.2

abbrev pub FitsAdrcGains : AdrcGains → Type 0
FitsAdrcGains g = AllFit (floats_of_adrc_gains g)

abbrev pub FitsAxis : AdrcAxis → Type 0
FitsAxis a = AllFit (floats_of_axis a)

abbrev pub FitsRate : AdrcRate → Type 0
FitsRate r = FitsAxis r.roll × FitsAxis r.pitch × FitsAxis r.yaw

abbrev pub FitsBiquad : Biquad → Type 0
FitsBiquad f = AllFit (floats_of_biquad f)

abbrev pub FitsLpf : GyroLpf → Type 0
FitsLpf l = FitsBiquad l.roll × FitsBiquad l.pitch × FitsBiquad l.yaw

pub record StateFits (s : State) : Type 0 where
  pub gains : FitsGains s.fixed.gains
  pub set : FitsSet s.fixed.set
  pub enter : F32 s.fixed.enter
  pub exit : F32 s.fixed.exit
  pub segment : FitsSegment s.fixed.segment
  pub governor : FitsGovernor s.moving.governor
  pub rate : FitsRate s.moving.rate
  pub lpf : FitsLpf s.moving.lpf
