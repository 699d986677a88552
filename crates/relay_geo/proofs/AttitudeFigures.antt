-- Document 01's worked figures for attitudes, in steps, so that each root is computed once. Assumes nothing.
use Rattle.std.specs.Prelude.{Some, None}
use Rattle.laws.proofs.Prelude.{◌≡◌, refl, true, false, pos, of_bits, sub, add, mul, div, lt, le}
use Rattle.relay_math.specs.{declared.Vec3.Vec3, F32.{0·0, 1·0, is_finite, grains}, Sqrt.sqrtf, Steps.{sinf, cosf}}
use Rattle.relay_geo.specs.{Vectors.{identity3, cross, dot, over, long, normalize}, Attitude.{heading, desired_attitude}}
use Rattle.relay_geo.proofs.Blank.{none, Blank3, blank_refused}

abbrev x : Vec3
x = (1·0, 0·0, 0·0)

abbrev y : Vec3
y = (0·0, 1·0, 0·0)

abbrev z : Vec3
z = (0·0, 0·0, 1·0)

root_one : sqrtf 1·0 ≡ 1·0
unfolding sqrtf grains of_bits
root_one = refl

long_one : long 1·0 ≡ true
unfolding is_finite lt of_bits
long_one = refl

-- of length one, and kept by the division
kept : (v : Vec3) → dot v v ≡ 1·0 → over v 1·0 ≡ v → normalize v ≡ Some v
unfolding normalize
kept v d k = rw (d, root_one, long_one, k)

unit_x : normalize x ≡ Some x
unfolding dot add mul div of_bits
unit_x = kept x refl refl

unit_y : normalize y ≡ Some y
unfolding dot add mul div of_bits
unit_y = kept y refl refl

unit_z : normalize z ≡ Some z
unfolding dot add mul div of_bits
unit_z = kept z refl refl

north : heading 0·0 ≡ x
unfolding heading sinf cosf lt le of_bits
north = refl

across : cross z x ≡ y
unfolding cross sub mul of_bits
across = refl

back : cross y z ≡ x
unfolding cross sub mul of_bits
back = refl

parallel : Blank3 (cross x x)
unfolding cross sub mul of_bits
parallel = record { x = none false (pos 0); y = none false (pos 0); z = none false (pos 0) }

-- "Axis [0,0,1], yaw 0: identity."
pub level : desired_attitude (0·0, 0·0, 1·0) 0·0 ≡ Some identity3
unfolding desired_attitude
level = rw (unit_z, north, across, unit_y, back)

-- "Axis [1,0,0], yaw 0: refused."
pub sideways : desired_attitude (1·0, 0·0, 0·0) 0·0 ≡ None
unfolding desired_attitude
sideways = rw (unit_x, north, blank_refused (cross x x) parallel)
