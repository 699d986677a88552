-- Attitudes, line by line as the Rust has them. Definitions only.
use Rattle.std.specs.Prelude.{◌≡◌, Bool, true, false, not, ◌||◌, cond, T, Float, Option, Some, None}
use Rattle.std.specs.Float.Ieee.{neg, le, eq}
use Rattle.relay_math.specs.declared.Vec3.{Vec3}
use Rattle.relay_math.specs.declared.BodyRate.{BodyRate}
use Rattle.relay_math.specs.F32.{◌⊕◌, ◌⊖◌, ◌⊗◌, ◌⊘◌, 0·0, 1e-3, 1·0, 2·0, is_finite}
use Rattle.relay_math.specs.Steps.{sinf, cosf}
use Rattle.relay_geo.specs.declared.vectors.Mat3.{Mat3}
use Rattle.relay_geo.specs.declared.vectors.Quat.{Quat}
use Rattle.relay_geo.specs.Vectors.{gravity_ned, cross, norm, over, normalize, sanitise3, transposed_times}

unfoldable pub quat_to_rotmat : Quat → Mat3
quat_to_rotmat q =
    let w = q.0 in
    let x = q.1 in
    let y = q.2 in
    let z = q.3 in (
      (1·0 ⊖ 2·0 ⊗ (y ⊗ y ⊕ z ⊗ z), 2·0 ⊗ (x ⊗ y ⊖ w ⊗ z), 2·0 ⊗ (x ⊗ z ⊕ w ⊗ y)),
      (2·0 ⊗ (x ⊗ y ⊕ w ⊗ z), 1·0 ⊖ 2·0 ⊗ (x ⊗ x ⊕ z ⊗ z), 2·0 ⊗ (y ⊗ z ⊖ w ⊗ x)),
      (2·0 ⊗ (x ⊗ z ⊖ w ⊗ y), 2·0 ⊗ (y ⊗ z ⊕ w ⊗ x), 1·0 ⊖ 2·0 ⊗ (x ⊗ x ⊕ y ⊗ y)),
    )

-- ---- the desired attitude

unfoldable pub heading : Float → Vec3
heading yaw = (cosf yaw, sinf yaw, 0·0)

-- the matrix of the columns b1, b2, b3
abbrev pub of_columns : Vec3 → Vec3 → Vec3 → Mat3
of_columns b1 b2 b3 = ((b1.0, b2.0, b3.0), (b1.1, b2.1, b3.1), (b1.2, b2.2, b3.2))

-- b2 is across b3 and the heading, b1 across both, with no attitude where there is no b2
abbrev pub columns_of : Vec3 → Option Vec3 → Option Mat3
columns_of b3 (Some b2) = Some (of_columns (cross b2 b3) b2 b3)
columns_of b3 None = None

-- no attitude where there is no axis b3
abbrev pub attitude_of : Option Vec3 → Float → Option Mat3
attitude_of (Some b3) yaw = columns_of b3 (normalize (cross b3 (heading yaw)))
attitude_of None yaw = None

unfoldable pub desired_attitude : Vec3 → Float → Option Mat3
desired_attitude b3 yaw = attitude_of (normalize b3) yaw

-- g - a
unfoldable pub thrust_force : Vec3 → Vec3
thrust_force a = (gravity_ned.0 ⊖ a.0, gravity_ned.1 ⊖ a.1, gravity_ned.2 ⊖ a.2)

unfoldable pub thrust_axis_ned : Vec3 → Option Vec3
thrust_axis_ned a = normalize (thrust_force a)

abbrev pub along_axis : Option Vec3 → Float → Option Mat3
along_axis (Some b3) yaw = desired_attitude b3 yaw
along_axis None yaw = None

unfoldable pub thrust_attitude : Vec3 → Float → Option Mat3
thrust_attitude a yaw = along_axis (thrust_axis_ned a) yaw

-- ---- the feedforward

abbrev pub too_weak : Float → Bool
too_weak c = not (is_finite c) || le c 1e-3

-- -(b3 × j) / c in the body's axes at r, and the heading's rate about the third
unfoldable pub body_rate : Float → Vec3 → Vec3 → Float → Mat3 → BodyRate
body_rate c b3 j yawRate r =
    let x = cross b3 j in
    let w = transposed_times r (neg x.0 ⊘ c, neg x.1 ⊘ c, neg x.2 ⊘ c) in
    record { 0 = sanitise3 (w.0, w.1, w.2 ⊕ yawRate) }

abbrev pub rate_from : Float → Vec3 → Vec3 → Float → Option Mat3 → Option BodyRate
rate_from c b3 j yawRate (Some r) = Some (body_rate c b3 j yawRate r)
rate_from c b3 j yawRate None = None

-- the attitude is that of b3 and the heading
unfoldable pub flatness_omega_ff : Vec3 → Vec3 → Float → Float → Option BodyRate
flatness_omega_ff a j yaw yawRate =
    let t = thrust_force a in
    let c = norm t in
    let b3 = over t c in
    cond (too_weak c) None (rate_from c b3 j yawRate (desired_attitude b3 yaw))

-- ---- for what is proved of them

abbrev pub gives_matrix : Option Mat3 → Bool
gives_matrix (Some r) = true
gives_matrix None = false

abbrev pub gives_rate : Option BodyRate → Bool
gives_rate (Some w) = true
gives_rate None = false

-- four zeros, each of either sign
pub record ZeroQuat (q : Quat) : Type 0 where
  pub w : T (eq q.0 0·0)
  pub x : T (eq q.1 0·0)
  pub y : T (eq q.2 0·0)
  pub z : T (eq q.3 0·0)

-- the identity, but that a zero of it may have either sign
pub record Level (m : Mat3) : Type 0 where
  pub ones : (m.0.0 ≡ 1·0) × (m.1.1 ≡ 1·0) × (m.2.2 ≡ 1·0)
  pub above : T (eq m.0.1 0·0) × T (eq m.0.2 0·0) × T (eq m.1.2 0·0)
  pub below : T (eq m.1.0 0·0) × T (eq m.2.0 0·0) × T (eq m.2.1 0·0)
