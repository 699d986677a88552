-- The worked figures of requests Four and Six, computed from the definitions in steps, so that each root is computed once. Assumes nothing.
use Rattle.std.specs.Prelude.{Some}
use Rattle.laws.proofs.Prelude.{◌≡◌, refl, of_bits, add, sub, mul, div, neg, lt, le, eq}
use Rattle.relay_math.specs.{declared.BodyRate.BodyRate, F32.{0·0, 1·0, 2·0, is_finite, grains}, Sqrt.sqrtf}
use Rattle.relay_geo.specs.{Vectors.{identity3, cross, dot, normalize, prod3, matmul3, transposed_times}, Controller.{psi, attitude_error, desired_rate}, Set.margin}
use Rattle.relay_geo.{specs.Attitude.{quat_to_rotmat, thrust_force, thrust_axis_ned, thrust_attitude, body_rate, flatness_omega_ff}, proofs.AttitudeFigures.level}
use Rattle.relay_traj.specs.Quintic.{4·0}
use Rattle.joint_tick.specs.{Tick.{commanded, rate_sq, guide_whole, guide_lost_rotor, guide}, Worked.{8·0, curve, aside, WorkedFigures}}

root_of_64 : sqrtf (dot (0·0, 0·0, 8·0) (0·0, 0·0, 8·0)) ≡ 8·0
unfolding sqrtf grains of_bits dot add mul
root_of_64 = refl

root_aside : sqrtf (dot (8·0, 0·0, 0·0) (8·0, 0·0, 0·0)) ≡ 8·0
unfolding sqrtf grains of_bits dot add mul
root_aside = refl

axis_of_curve : thrust_axis_ned curve.acc ≡ Some (0·0, 0·0, 1·0)
unfolding thrust_axis_ned thrust_force normalize sub div is_finite lt of_bits
axis_of_curve = rw root_of_64

axis_aside : thrust_axis_ned aside.acc ≡ Some (1·0, 0·0, 0·0)
unfolding thrust_axis_ned thrust_force normalize sub div is_finite lt of_bits
axis_aside = rw root_aside

level_desired : thrust_attitude curve.acc 0·0 ≡ Some identity3
unfolding thrust_attitude
level_desired = rw (axis_of_curve, level)

abbrev along : BodyRate
along = record { 0 = (1·0, 2·0, 4·0) }

turns : body_rate 8·0 (0·0, 0·0, 1·0) curve.jerk 4·0 identity3 ≡ along
unfolding body_rate cross transposed_times dot is_finite of_bits add sub mul div neg
turns = refl

ahead_of_curve : flatness_omega_ff curve.acc curve.jerk 0·0 4·0 ≡ Some along
unfolding flatness_omega_ff thrust_force is_finite lt le eq of_bits sub div
ahead_of_curve = rw (root_of_64, level, turns)

pub worked_figures : WorkedFigures
unfolding guide guide_whole guide_lost_rotor desired_rate quat_to_rotmat psi attitude_error margin commanded rate_sq matmul3 prod3 transposed_times dot is_finite of_bits add sub mul div neg lt le
worked_figures = record { turning = rw (level_desired, ahead_of_curve); matrix_first = refl; falling = rw axis_aside }
