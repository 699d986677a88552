-- Three axes of a trajectory, as 001 has them. Definitions only.
use Rattle.std.specs.Prelude.{Float}
use Rattle.relay_math.specs.F32.{0·0}
use Rattle.relay_math.specs.declared.Vec3.{Vec3}
use Rattle.relay_traj.specs.declared.segment.Segment3.{Segment3}
use Rattle.relay_traj.specs.declared.segment.Sample3.{Sample3}
use Rattle.relay_traj.specs.Quintic.{quintic, eval, peak_abs_jerk}

unfoldable pub segment : Vec3 → Vec3 → Vec3 → Vec3 → Vec3 → Vec3 → Float → Segment3
segment p0 v0 a0 pf vf af t = (
  quintic p0.0 v0.0 a0.0 pf.0 vf.0 af.0 t,
  quintic p0.1 v0.1 a0.1 pf.1 vf.1 af.1 t,
  quintic p0.2 v0.2 a0.2 pf.2 vf.2 af.2 t,
)

abbrev pub at_rest : Vec3
at_rest = (0·0, 0·0, 0·0)

unfoldable pub rest_to_rest : Vec3 → Vec3 → Float → Segment3
unfolding segment
rest_to_rest from to t = segment from at_rest at_rest to at_rest at_rest t

-- the first axis's
abbrev pub duration : Segment3 → Float
duration g = g.0.t_end

unfoldable pub eval3 : Segment3 → Float → Sample3
eval3 g t =
    let x = eval g.0 t in
    let y = eval g.1 t in
    let z = eval g.2 t in
    record { pos = (x.p, y.p, z.p); vel = (x.v, y.v, z.v); acc = (x.a, y.a, z.a); jerk = (x.j, y.j, z.j) }

unfoldable pub peak_abs_jerk3 : Segment3 → Vec3
peak_abs_jerk3 g = (peak_abs_jerk g.0, peak_abs_jerk g.1, peak_abs_jerk g.2)
