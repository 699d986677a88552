-- Requests Four and Six at numbers that are exact in f32, each answer worked out by hand from the requests' sentences: another sign, the other matrix
-- transposed, a term more or less gives another number. Definitions only.
use Rattle.std.specs.Prelude.{◌≡◌, Float}
use Rattle.relay_math.specs.declared.BodyRate.{BodyRate}
use Rattle.relay_math.specs.F32.{f32, 0·0, 0·5, 1·0, 2·0, 3·0}
use Rattle.relay_geo.specs.declared.vectors.Quat.{Quat}
use Rattle.relay_geo.specs.declared.controller.GeoGains.{GeoGains}
use Rattle.relay_geo.specs.declared.set.RecoverableSet.{RecoverableSet}
use Rattle.relay_geo.specs.Vectors.{9·81}
use Rattle.relay_traj.specs.Quintic.{4·0}
use Rattle.joint_tick.specs.declared.profile.Profile.TheVariants.{Whole, LostRotor}
use Rattle.joint_tick.specs.declared.state.TickInput.{TickInput}
use Rattle.joint_tick.specs.declared.stages.Reference.{Reference}
use Rattle.joint_tick.specs.Tick.{commanded, guide}

-- ---- the numbers that have no name yet

abbrev -16·0 : Float
-16·0 = f32 0xc180_0000

abbrev -12·0 : Float
-12·0 = f32 0xc140_0000

abbrev -8·0 : Float
-8·0 = f32 0xc100_0000

abbrev -6·0 : Float
-6·0 = f32 0xc0c0_0000

abbrev -1·0 : Float
-1·0 = f32 0xbf80_0000

abbrev 0·25 : Float
0·25 = f32 0x3e80_0000

abbrev 1·5 : Float
1·5 = f32 0x3fc0_0000

-- 9.81, as f32 has it, less 8: that difference is exact
abbrev 1·81 : Float
1·81 = f32 0x3fe7_ae18

abbrev 7·0 : Float
7·0 = f32 0x40e0_0000

abbrev pub 8·0 : Float
8·0 = f32 0x4100_0000

abbrev 14·0 : Float
14·0 = f32 0x4160_0000

abbrev 16·0 : Float
16·0 = f32 0x4180_0000

abbrev 43·0 : Float
43·0 = f32 0x422c_0000

abbrev 64·0 : Float
64·0 = f32 0x4280_0000

abbrev 2^24 : Float
2^24 = f32 0x4b80_0000

abbrev -2^24 : Float
-2^24 = f32 0xcb80_0000

-- ---- what the lines speak of

abbrev pub gains : GeoGains
gains = record { k_r = (2·0, 8·0, 16·0); k_omega = (0·0, 0·0, 0·0); j = (0·0, 0·0, 0·0) }

-- its other ceiling, 64 - psi, is above every margin here
abbrev pub set : RecoverableSet
set = record { k_r = 16·0; lambda_j = 1·0; psi_max = 64·0 }

abbrev pub turning_at : BodyRate
turning_at = record { 0 = (1·0, 2·0, 3·0) }

abbrev still : BodyRate
still = record { 0 = (0·0, 0·0, 0·0) }

-- heading 0, turning by 4
abbrev pub held : Quat → TickInput
held q =
    record {
      gyro = still;
      quat = q;
      track_err = 0·0;
      yaw = 0·0;
      yaw_rate = 4·0;
      dt = 0·0;
      agile = still;
      fraction = (1·0, 1·0, 1·0);
    }

-- Four. The thrust is 9.81 - 1.81 = 8 along the third axis, so that R_d is the identity. b3 x jerk is (-8, -16, 0), and less that by 8 is (1, 2, 0): the
-- feedforward is (1, 2, 4).
abbrev pub curve : Reference
curve = record { acc = (0·0, 0·0, 1·81); jerk = (-16·0, 8·0, 0·0) }

-- R takes the first axis to the second, that to the third and that to the first
abbrev pub third_of_a_turn : Quat
third_of_a_turn = record { 0 = 0·5; 1 = 0·5; 2 = 0·5; 3 = 0·5 }

-- Six. The thrust is 8 along the first axis. R's third column is (0.5, -1, 0.375) and its first row (0.875, 0.25, 0.5): it is no rotation, which no routine
-- asks for, and every entry is exact.
abbrev pub aside : Reference
aside = record { acc = (-8·0, 0·0, 9·81); jerk = (0·0, 0·0, 0·0) }

abbrev pub tilted : Quat
tilted = record { 0 = 1·0; 1 = 0·5; 2 = 0·25; 3 = 0·0 }

-- ---- the table

pub record WorkedFigures : Type 0 where
  -- The attitude's error is (1, 1, 1): -k_r times it and the feedforward are (-2, -8, -16) + (1, 2, 4). R's trace is 0, so psi is 3 / 2. Rᵀ R_d times
  -- (1, 2, 4) is (2, 4, 1); the rate (1, 2, 3) less that is (-1, -2, 2), squared 9; the ceiling is 2 · 16 · (2 - 1.5) = 16.
  pub turning : guide Whole gains set turning_at curve (held third_of_a_turn) ≡ record { fallback = record { 0 = (-1·0, -6·0, -12·0) }; psi = 1·5; margin = 7·0; planner = still }
  -- "matrix product first, then the vector": the first row of the product is (2^24 - 2^24, 1, 0), and times (1, 1, 0) that is 1. The vector first would lose
  -- the 1 beside 2^24.
  pub matrix_first : (commanded ((1·0, 0·0, 0·0), (1·0, 0·0, 0·0), (0·0, 0·0, 0·0)) ((2^24, 1·0, 0·0), (-2^24, 0·0, 0·0), (0·0, 0·0, 0·0)) (1·0, 1·0, 0·0)).0 ≡ 1·0
  -- The reduced error is (2 · 0.25, -2 · 0.875), times -k_r. Psi is 1 - 0.5. The first two rates squared are 1 + 4; the ceiling is 2 · 16 · (2 - 0.5) = 48.
  pub falling : guide LostRotor gains set turning_at aside (held tilted) ≡ record { fallback = record { 0 = (-1·0, 14·0, 0·0) }; psi = 0·5; margin = 43·0; planner = still }
