-- Document 01's proved set, worked out from the definitions. Assumes nothing.
use Rattle.laws.proofs.Prelude.{refl, of_bits, add, sub, mul, div, neg, lt, le, eq, is_nan}
use Rattle.relay_math.specs.{F32.{is_finite, fabsf, grains}, Sqrt.sqrtf}
use Rattle.relay_geo.specs.Set.{margin}
use Rattle.relay_traj.specs.{Quintic.{quintic, eval, peak_abs_jerk}, Governor.gate}
use Rattle.relay_adrc.specs.{Axis.axis_tick, Filter.{clamp_sym, filter_step}}
use Rattle.joint_tick.specs.Figures.{StarredFigures}

pub starred_figures : StarredFigures
unfolding sqrtf margin gate quintic eval peak_abs_jerk axis_tick filter_step clamp_sym is_finite fabsf grains of_bits add sub mul div neg lt le eq is_nan
starred_figures =
    record {
      root_of_4 = refl;
      root_of_the_least = refl;
      margin_within = refl;
      margin_at_the_edge = refl;
      gate_at_1 = refl;
      gate_at_2 = refl;
      gate_at_3 = refl;
      gate_at_nan = refl;
      c5 = refl;
      c4 = refl;
      c3 = refl;
      p = refl;
      v = refl;
      a = refl;
      jerk = refl;
      peak = refl;
      first_z1 = refl;
      first_z2 = refl;
      first_u = refl;
      second_z1 = refl;
      second_z2 = refl;
      second_u = refl;
      filtered = refl;
      clamped_by_infinity = refl;
      clamped_by_minus_1 = refl;
    }
