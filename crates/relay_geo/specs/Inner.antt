-- Only inner functions promise these, for speed: whoever reads what is claimed need not read them. Definitions only.
use Rattle.std.specs.Prelude.{cond, Float, Option, None}
use Rattle.relay_math.specs.declared.Vec3.{Vec3}
use Rattle.relay_math.specs.declared.BodyRate.{BodyRate}
use Rattle.relay_geo.specs.declared.vectors.Mat3.{Mat3}
use Rattle.relay_geo.specs.declared.attitude.Thrust.{Thrust}
use Rattle.relay_geo.specs.Vectors.{norm, over, direction_of}
use Rattle.relay_geo.specs.Attitude.{thrust_force, along_axis, too_weak, rate_from}

-- ---- the thrust's force and its norm, for a caller that wants the attitude and the feedforward of one acceleration

unfoldable pub thrust_of : Vec3 → Thrust
thrust_of a = let t = thrust_force a in record { force = t; norm = norm t }

unfoldable pub attitude_on : Thrust → Float → Option Mat3
attitude_on t yaw = along_axis (direction_of t.force t.norm) yaw

unfoldable pub feedforward_on : Thrust → Vec3 → Float → Option Mat3 → Option BodyRate
feedforward_on t j yawRate attitude =
    let c = t.norm in
    cond (too_weak c) None (rate_from c (over t.force c) j yawRate attitude)
