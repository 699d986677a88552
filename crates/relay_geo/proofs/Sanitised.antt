-- `sanitise3` and what ends in it. Assumes nothing.
use Rattle.std.specs.Prelude.{Option, Some, None, IfSome}
use Rattle.laws.proofs.Prelude.{◌≡◌, refl, subst, Bool, true, false, cond, Float, of_bits}
use Rattle.relay_math.{specs.{declared.{Vec3.Vec3, BodyRate.BodyRate}, F32.{0·0, is_finite}}, proofs.FiniteOr.{finite_or_keeps, or_zero_finite}}
use Rattle.relay_geo.specs.declared.{vectors.{Mat3.Mat3, Quat.Quat}, controller.GeoGains.GeoGains}
use Rattle.relay_geo.specs.{Vectors.{norm, over, sanitise3, Finite3}, Attitude.{quat_to_rotmat, thrust_force, thrust_attitude, desired_attitude, too_weak, body_rate, rate_from, flatness_omega_ff}}
use Rattle.relay_geo.specs.{Shield.picked, Controller.{rate_toward, desired_rate, torque_toward, tick}}

pub sanitise3_finite : (v : Vec3) → Finite3 (sanitise3 v)
sanitise3_finite v = record { x = or_zero_finite v.0; y = or_zero_finite v.1; z = or_zero_finite v.2 }

pub sanitise3_keeps : (v : Vec3) → Finite3 v → sanitise3 v ≡ v
sanitise3_keeps v h = rw (finite_or_keeps v.0 0·0 h.x, finite_or_keeps v.1 0·0 h.y, finite_or_keeps v.2 0·0 h.z)

-- the shield's pick: of either choice the numbers may be made finite after it
pub sanitised_after : (engaged : Bool) (agile fallback : BodyRate) → ◌≡◌ {A = BodyRate} record { 0 = sanitise3 (cond engaged fallback agile).0 } (picked engaged agile fallback)
sanitised_after true agile fallback = refl
sanitised_after false agile fallback = refl

-- ---- `desired_rate`, `tick` and the feedforward answer finite numbers, whatever the bits

zeros_finite : Finite3 (0·0, 0·0, 0·0)
unfolding is_finite of_bits
zeros_finite = record { x = tt; y = tt; z = tt }

rate_finite : (g : GeoGains) (r : Mat3) (d : Option Mat3) → Finite3 (rate_toward g r d).0
rate_finite g r (Some m) = sanitise3_finite _
rate_finite g r None = zeros_finite

pub desired_rate_finite : (g : GeoGains) (q : Quat) (a : Vec3) (yaw : Float) → Finite3 (desired_rate g q a yaw).0
unfolding desired_rate
desired_rate_finite g q a yaw = rate_finite g (quat_to_rotmat q) (thrust_attitude (sanitise3 a) yaw)

torque_finite : (g : GeoGains) (r : Mat3) (w : BodyRate) (d : Option Mat3) → Finite3 (torque_toward g r w d).0
torque_finite g r w (Some m) = sanitise3_finite _
torque_finite g r w None = sanitise3_finite _

pub tick_finite : (g : GeoGains) (q : Quat) (w : BodyRate) (a : Vec3) (yaw : Float) → Finite3 (tick g q w a yaw).0
unfolding tick
tick_finite g q w a yaw = torque_finite g (quat_to_rotmat q) record { 0 = sanitise3 w.0 } (thrust_attitude (sanitise3 a) yaw)

abbrev FiniteRate : Option BodyRate → Type 0
FiniteRate f = IfSome f (λ (w : BodyRate). Finite3 w.0)

from_finite : (c : Float) (b3 j : Vec3) (yawRate : Float) (d : Option Mat3) → FiniteRate (rate_from c b3 j yawRate d)
unfolding body_rate
from_finite c b3 j yawRate (Some r) = sanitise3_finite _
from_finite c b3 j yawRate None = tt

unless : (b : Bool) (x : Option BodyRate) → FiniteRate x → FiniteRate (cond b None x)
unless true x h = tt
unless false x h = h

pub feedforward_finite : (a j : Vec3) (yaw yawRate : Float) (w : BodyRate) → flatness_omega_ff a j yaw yawRate ≡ Some w → Finite3 w.0
unfolding flatness_omega_ff
feedforward_finite a j yaw yawRate w e =
    let c = norm (thrust_force a) in let b3 = over (thrust_force a) c in
    subst FiniteRate e (unless (too_weak c) _ (from_finite c b3 j yawRate (desired_attitude b3 yaw)))
