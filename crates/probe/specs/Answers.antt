-- What a routine that may refuse answers, as a flag and its numbers: zeros where it refuses. Definitions only.
use Rattle.std.specs.Prelude.{true, false, Option, Some, None}
use Rattle.relay_math.specs.F32.{0·0}
use Rattle.relay_math.specs.declared.Vec3.{Vec3}
use Rattle.relay_math.specs.declared.BodyRate.{BodyRate}
use Rattle.relay_geo.specs.declared.vectors.Mat3.{Mat3}
use Rattle.probe.specs.declared.geo.AxisAnswer.{AxisAnswer}
use Rattle.probe.specs.declared.geo.AttitudeAnswer.{AttitudeAnswer}
use Rattle.probe.specs.declared.geo.RateAnswer.{RateAnswer}

abbrev pub zero : Vec3
zero = (0·0, 0·0, 0·0)

abbrev pub axis_answer : Option Vec3 → AxisAnswer
axis_answer (Some v) = record { given = true; axis = v }
axis_answer None = record { given = false; axis = zero }

abbrev pub attitude_answer : Option Mat3 → AttitudeAnswer
attitude_answer (Some m) = record { given = true; matrix = m }
attitude_answer None = record { given = false; matrix = (zero, zero, zero) }

abbrev pub rate_answer : Option BodyRate → RateAnswer
rate_answer (Some w) = record { given = true; rate = w }
rate_answer None = record { given = false; rate = record { 0 = zero } }
