-- No desired attitude: in free fall, and at a heading that is no number, infinite or beyond the limit. Assumes nothing.
use Rattle.std.specs.Prelude.{Option, Some, None}
use Rattle.laws.proofs.Prelude.{◌≡◌, refl, false, not, T, pos, Float, fin, of_bits, sub}
use Rattle.relay_math.{specs.{declared.{Vec3.Vec3, BodyRate.BodyRate}, F32.{0·0, is_finite}, Exact.in_range}, proofs.FiniteOr.sin_cos_far}
use Rattle.relay_geo.specs.declared.{vectors.Quat.Quat, controller.GeoGains.GeoGains}
use Rattle.relay_geo.specs.{Vectors.{gravity_ned, normalize, sanitise3}, Attitude.{heading, attitude_of, desired_attitude, along_axis, thrust_force, thrust_axis_ned, thrust_attitude}}
use Rattle.relay_geo.specs.Controller.{against, desired_rate, tick}
use Rattle.relay_geo.proofs.Blank.{none, cross_blank, blank_refused}

-- with no attitude `desired_rate` gives zeros and `tick` rate damping alone
pub no_attitude_rate : (g : GeoGains) (q : Quat) (a : Vec3) (yaw : Float) → thrust_attitude (sanitise3 a) yaw ≡ None → desired_rate g q a yaw ≡ record { 0 = (0·0, 0·0, 0·0) }
unfolding desired_rate
no_attitude_rate g q a yaw n = rw n

pub no_attitude_tick : (g : GeoGains) (q : Quat) (w : BodyRate) (a : Vec3) (yaw : Float)
    → thrust_attitude (sanitise3 a) yaw ≡ None
    → tick g q w a yaw ≡ record { 0 = sanitise3 (against g.k_omega (sanitise3 w.0)) }
unfolding tick
no_attitude_tick g q w a yaw n = rw n

-- "Acceleration [0,0,9.81]: damping only."
free_fall : thrust_axis_ned gravity_ned ≡ None
unfolding thrust_axis_ned thrust_force of_bits sub
free_fall = blank_refused (thrust_force gravity_ned) record { x = none false (pos 0); y = none false (pos 0); z = none false (pos 0) }

clean : sanitise3 gravity_ned ≡ gravity_ned
unfolding is_finite of_bits
clean = refl

pub free_fall_damps : (g : GeoGains) (q : Quat) (w : BodyRate) (yaw : Float) → tick g q w gravity_ned yaw ≡ record { 0 = sanitise3 (against g.k_omega (sanitise3 w.0)) }
unfolding thrust_attitude
free_fall_damps g q w yaw = no_attitude_tick g q w gravity_ned yaw (rw (clean, free_fall))

-- "A non-finite yaw makes the heading vector zero, so `desired_attitude` refuses", and so does one beyond the limit.
module _ (yaw : Float) (far : T (not (in_range yaw))) where
  zero_heading : heading yaw ≡ (fin false 0 (pos 0), fin false 0 (pos 0), fin false 0 (pos 0))
  unfolding heading of_bits
  zero_heading = let z = sin_cos_far yaw far in rw (z.0, z.1)

  no_columns : (d : Option Vec3) → attitude_of d yaw ≡ None
  no_columns (Some b) = rw (zero_heading, blank_refused _ (cross_blank b))
  no_columns None = refl

  pub bad_heading_refused : (b : Vec3) → desired_attitude b yaw ≡ None
  unfolding desired_attitude
  bad_heading_refused b = no_columns (normalize b)

  along : (d : Option Vec3) → along_axis d yaw ≡ None
  along (Some b) = bad_heading_refused b
  along None = refl

  pub bad_heading_none : (a : Vec3) → thrust_attitude a yaw ≡ None
  unfolding thrust_attitude
  bad_heading_none a = along (thrust_axis_ned a)

  pub bad_heading_rate : (g : GeoGains) (q : Quat) (a : Vec3) → desired_rate g q a yaw ≡ record { 0 = (0·0, 0·0, 0·0) }
  bad_heading_rate g q a = no_attitude_rate g q a yaw (bad_heading_none (sanitise3 a))

  pub bad_heading_tick : (g : GeoGains) (q : Quat) (w : BodyRate) (a : Vec3) → tick g q w a yaw ≡ record { 0 = sanitise3 (against g.k_omega (sanitise3 w.0)) }
  bad_heading_tick g q w a = no_attitude_tick g q w a yaw (bad_heading_none (sanitise3 a))
