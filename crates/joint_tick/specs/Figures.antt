-- Document 01's worked figures, those marked *: 25 numbers, each beside what the definitions compute. Definitions only.
use Rattle.std.specs.Prelude.{◌≡◌, Float}
use Rattle.std.specs.Float.{nan}
use Rattle.relay_math.specs.F32.{f32, 0·0, 0·5, 1·0, 1·75, 2·0, 3·0, ∞}
use Rattle.relay_math.specs.Sqrt.{sqrtf}
use Rattle.relay_geo.specs.declared.set.RecoverableSet.{RecoverableSet}
use Rattle.relay_geo.specs.Set.{new_set, margin}
use Rattle.relay_traj.specs.declared.quintic.Quintic.{Quintic}
use Rattle.relay_traj.specs.declared.quintic.Sample.{Sample}
use Rattle.relay_traj.specs.declared.governor.RefGovernor.{RefGovernor}
use Rattle.relay_traj.specs.Quintic.{4·0, 5·0, quintic, eval, peak_abs_jerk}
use Rattle.relay_traj.specs.Governor.{governor, gate}
use Rattle.relay_adrc.specs.declared.axis.AxisTick.{AxisTick}
use Rattle.relay_adrc.specs.declared.filter.CommandFilter.{CommandFilter}
use Rattle.relay_adrc.specs.Gains.{with_tau}
use Rattle.relay_adrc.specs.Axis.{axis_new, axis_tick, axis_set_delivered_fraction}
use Rattle.relay_adrc.specs.Filter.{clamp_sym, filter_new, filter_step}

-- ---- the document's numbers that have no name yet, each exactly an f32

abbrev -3·75 : Float
-3·75 = f32 0xc070_0000

abbrev -1·5 : Float
-1·5 = f32 0xbfc0_0000

abbrev -1·0 : Float
-1·0 = f32 0xbf80_0000

abbrev -0·9375 : Float
-0·9375 = f32 0xbf70_0000

abbrev 0·0078125 : Float
0·0078125 = f32 0x3c00_0000

abbrev 0·0625 : Float
0·0625 = f32 0x3d80_0000

abbrev 0·125 : Float
0·125 = f32 0x3e00_0000

abbrev 0·1875 : Float
0·1875 = f32 0x3e40_0000

abbrev 0·25 : Float
0·25 = f32 0x3e80_0000

abbrev 0·625 : Float
0·625 = f32 0x3f20_0000

abbrev 0·75 : Float
0·75 = f32 0x3f40_0000

abbrev 0·9375 : Float
0·9375 = f32 0x3f70_0000

abbrev 1·25 : Float
1·25 = f32 0x3fa0_0000

abbrev 1·5 : Float
1·5 = f32 0x3fc0_0000

abbrev 97·5 : Float
97·5 = f32 0x42c3_0000

-- ---- what the lines speak of

abbrev set : RecoverableSet
set = new_set 1·0 1·0 1·75

abbrev reference : RefGovernor
reference = governor 1·0 3·0 0·25

abbrev leg : Quintic
leg = quintic 0·0 0·0 0·0 1·0 0·0 0·0 2·0

abbrev half_way : Sample
half_way = eval leg 1·0

abbrev first : AxisTick
first = axis_tick (axis_new (with_tau 4·0 2·0 2·0 0·0)) 1·0 0·0 0·0625

abbrev second : AxisTick
second = axis_tick (axis_set_delivered_fraction first.axis 0·5) 1·0 0·0 0·0625

abbrev figure_filter : CommandFilter
figure_filter = filter_new 2·0 1·0 0·125

-- ---- the table: the document's line, and under it a row for each of its numbers

pub record StarredFigures : Type 0 where
  -- "Root of 4 is 2; of bits 0x00000001 is 0x1A3504F3." (That `sqrtf` gives the root is `is_root` of relay_math.)
  pub root_of_4 : sqrtf 4·0 ≡ 2·0
  pub root_of_the_least : sqrtf (f32 0x0000_0001) ≡ f32 0x1a35_04f3
  -- "Set (1, 1, 1.75): psi 0.25, squared rate 3 gives 0.5; psi 1.75, squared rate 0.5 gives 0."
  pub margin_within : margin set 0·25 3·0 ≡ 0·5
  pub margin_at_the_edge : margin set 1·75 0·5 ≡ 0·0
  -- "Gate with 1, 3, 0.25: error 1 gives 1; 2 gives 0.625; 3 gives 0.25; NaN gives 0.25."
  pub gate_at_1 : gate reference 1·0 ≡ 1·0
  pub gate_at_2 : gate reference 2·0 ≡ 0·625
  pub gate_at_3 : gate reference 3·0 ≡ 0·25
  pub gate_at_nan : gate reference nan ≡ 0·25
  -- "Rest to rest from 0 to 1 in 2 s: c5 0.1875, c4 -0.9375, c3 1.25; at 1 s p 0.5, v 0.9375, a 0, jerk -3.75; peak 97.5."
  pub c5 : leg.c5 ≡ 0·1875
  pub c4 : leg.c4 ≡ -0·9375
  pub c3 : leg.c3 ≡ 1·25
  pub p : half_way.p ≡ 0·5
  pub v : half_way.v ≡ 0·9375
  pub a : half_way.a ≡ 0·0
  pub jerk : half_way.j ≡ -3·75
  pub peak : peak_abs_jerk leg ≡ 97·5
  -- "ADRC 4, 2, 2, tau 0, dt 0.0625, measured 1, wanted 0: z1 0.5, z2 1, u -1; then with fraction 0.5: 0.75, 1.5, -1.5."
  pub first_z1 : first.axis.z1 ≡ 0·5
  pub first_z2 : first.axis.z2 ≡ 1·0
  pub first_u : first.u ≡ -1·0
  pub second_z1 : second.axis.z1 ≡ 0·75
  pub second_z2 : second.axis.z2 ≡ 1·5
  pub second_u : second.u ≡ -1·5
  -- "`CommandFilter` 2, 1, rate limit 0.125, input 1, dt 0.0625: 0.0078125."
  pub filtered : (filter_step figure_filter 1·0 0·0625).y ≡ 0·0078125
  -- "`clamp_sym` of 5: limit +infinity 5, limit -1 0."
  pub clamped_by_infinity : clamp_sym 5·0 ∞ ≡ 5·0
  pub clamped_by_minus_1 : clamp_sym 5·0 -1·0 ≡ 0·0
