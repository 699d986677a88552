-- The geometric attitude controller, line by line as the Rust has it. Definitions only.
use Rattle.std.specs.Prelude.{Float, Option, Some, None}
use Rattle.std.specs.Float.Ieee.{neg}
use Rattle.relay_math.specs.declared.Vec3.{Vec3}
use Rattle.relay_math.specs.declared.BodyRate.{BodyRate}
use Rattle.relay_math.specs.declared.Torque.{Torque}
use Rattle.relay_math.specs.F32.{f32, ◌⊕◌, ◌⊖◌, ◌⊗◌, 0·0, 0·5, 2·0, 3·0}
use Rattle.relay_geo.specs.declared.vectors.Mat3.{Mat3}
use Rattle.relay_geo.specs.declared.vectors.Quat.{Quat}
use Rattle.relay_geo.specs.declared.controller.GeoGains.{GeoGains}
use Rattle.relay_geo.specs.Vectors.{cross, column0, column1, column2, prod3, transposed_times, sanitise3}
use Rattle.relay_geo.specs.Attitude.{quat_to_rotmat, thrust_attitude}

abbrev pub falcon_quad_gains : GeoGains
falcon_quad_gains =
    record {
      k_r = (f32 0x3f19_999a, f32 0x3f19_999a, f32 0x3e19_999a);
      k_omega = (f32 0x3df5_c28f, f32 0x3df5_c28f, f32 0x3eb3_3333);
      j = (f32 0x3cb1_c433, f32 0x3cb1_c433, f32 0x3d23_d70a);
    }

-- ---- errors. Entry (i, j) of AᵀB is `prod3` of the columns i of A and j of B: no matrix stands between. proofs/Products.antt has both by
-- `matmul3`, `transpose3` and `vee`, as the Rust writes them.

unfoldable pub psi : Mat3 → Mat3 → Float
psi r rd =
    let tr = prod3 (column0 rd) (column0 r) ⊕ prod3 (column1 rd) (column1 r) ⊕ prod3 (column2 rd) (column2 r) in
    0·5 ⊗ (3·0 ⊖ tr)

-- entry (i, j) of R_dᵀ R - Rᵀ R_d
abbrev pub difference : Mat3 → Mat3 → (Mat3 → Vec3) → (Mat3 → Vec3) → Float
difference r rd i j = prod3 (i rd) (j r) ⊖ prod3 (i r) (j rd)

unfoldable pub attitude_error : Mat3 → Mat3 → Vec3
attitude_error r rd =
    let d = difference r rd in (
      0·5 ⊗ (d column2 column1 ⊖ d column1 column2),
      0·5 ⊗ (d column0 column2 ⊖ d column2 column0),
      0·5 ⊗ (d column1 column0 ⊖ d column0 column1),
    )

abbrev pub attitude_error_reduced : Mat3 → Vec3 → Vec3
attitude_error_reduced r b3 = let v = transposed_times r b3 in (2·0 ⊗ v.1, neg 2·0 ⊗ v.0, 0·0)

-- ---- torques and rates

unfoldable pub gyroscopic : Vec3 → Vec3 → Vec3
gyroscopic j w = cross w (j.0 ⊗ w.0, j.1 ⊗ w.1, j.2 ⊗ w.2)

abbrev pub against : Vec3 → Vec3 → Vec3
against k e = (neg k.0 ⊗ e.0, neg k.1 ⊗ e.1, neg k.2 ⊗ e.2)

-- - k_R e - k_Ω Ω + gyro
unfoldable pub opposed : Vec3 → Vec3 → Vec3 → Vec3 → Vec3 → Vec3
opposed kr e ko w gyro = (
  neg kr.0 ⊗ e.0 ⊖ ko.0 ⊗ w.0 ⊕ gyro.0,
  neg kr.1 ⊗ e.1 ⊖ ko.1 ⊗ w.1 ⊕ gyro.1,
  neg kr.2 ⊗ e.2 ⊖ ko.2 ⊗ w.2 ⊕ gyro.2,
)

-- no yaw torque
unfoldable pub moment_reduced : GeoGains → Mat3 → BodyRate → Vec3 → Torque
moment_reduced g r omega b3 =
    let w = omega.0 in
    let m = opposed g.k_r (attitude_error_reduced r b3) g.k_omega w (gyroscopic g.j w) in
    record { 0 = (m.0, m.1, 0·0) }

unfoldable pub moment : GeoGains → Mat3 → BodyRate → Mat3 → Torque
moment g r omega rd =
    let w = omega.0 in
    record { 0 = opposed g.k_r (attitude_error r rd) g.k_omega w (gyroscopic g.j w) }

abbrev pub rate_toward : GeoGains → Mat3 → Option Mat3 → BodyRate
rate_toward g r (Some rd) = record { 0 = sanitise3 (against g.k_r (attitude_error r rd)) }
rate_toward g r None = record { 0 = (0·0, 0·0, 0·0) }

unfoldable pub desired_rate : GeoGains → Quat → Vec3 → Float → BodyRate
desired_rate g q a yaw = rate_toward g (quat_to_rotmat q) (thrust_attitude (sanitise3 a) yaw)

abbrev pub torque_toward : GeoGains → Mat3 → BodyRate → Option Mat3 → Torque
torque_toward g r omega (Some rd) = record { 0 = sanitise3 (moment g r omega rd).0 }
torque_toward g r omega None = record { 0 = sanitise3 (against g.k_omega omega.0) }

unfoldable pub tick : GeoGains → Quat → BodyRate → Vec3 → Float → Torque
tick g q omega a yaw = torque_toward g (quat_to_rotmat q) record { 0 = sanitise3 omega.0 } (thrust_attitude (sanitise3 a) yaw)
