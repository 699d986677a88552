-- `euler_to_quaternion` of document 003. Definitions only.
use Rattle.std.specs.Prelude.{◌⊎◌, Bool, not, ◌*◌, T, Float}
use Rattle.std.specs.Float.{nan, inf, fin}
use Rattle.std.specs.Float.Ieee.{eq}
use Rattle.relay_math.specs.F32.{◌⊕◌, ◌⊖◌, ◌⊗◌, 0·0, 0·5}
use Rattle.relay_math.specs.Exact.{Limit, up_to}
use Rattle.relay_math.specs.Steps.{sinf, cosf}
use Rattle.relay_pos.specs.declared.Quaternion.{Quaternion}

unfoldable pub euler_to_quaternion : Float → Float → Float → Quaternion
euler_to_quaternion roll pitch yaw =
    let cr = cosf (roll ⊗ 0·5) in
    let sr = sinf (roll ⊗ 0·5) in
    let cp = cosf (pitch ⊗ 0·5) in
    let sp = sinf (pitch ⊗ 0·5) in
    let cy = cosf (yaw ⊗ 0·5) in
    let sy = sinf (yaw ⊗ 0·5) in (
      cr ⊗ cp ⊗ cy ⊕ sr ⊗ sp ⊗ sy,
      sr ⊗ cp ⊗ cy ⊖ cr ⊗ sp ⊗ sy,
      cr ⊗ sp ⊗ cy ⊕ sr ⊗ cp ⊗ sy,
      cr ⊗ cp ⊗ sy ⊖ sr ⊗ sp ⊗ cy,
    )

-- ---- for what is proved of it

-- twice a number, exactly
abbrev pub twice : Float → Float
twice nan = nan
twice (inf s) = inf s
twice (fin s m e) = fin s (2 * m) e

-- an angle of size at most twice the limit of sine and cosine, which take its half: false of a NaN
abbrev pub served : Float → Bool
served angle = up_to (twice Limit) angle

-- one of the three angles, at least, is not
abbrev pub Bad : Float → Float → Float → Type 0
Bad roll pitch yaw = T (not (served roll)) ⊎ (T (not (served pitch)) ⊎ T (not (served yaw)))

-- four zeros, each of either sign
pub record ZeroQuaternion (q : Quaternion) : Type 0 where
  pub w : T (eq q.0 0·0)
  pub x : T (eq q.1 0·0)
  pub y : T (eq q.2 0·0)
  pub z : T (eq q.3 0·0)
