-- A quaternion of four zeros counts as level. Assumes nothing.
use Rattle.laws.proofs.Prelude.{◌≡◌, refl, sym, subst, Bool, true, false, pos, T, Float, fin, binary32, fits, sum, add, sub, mul, neg, round, of_bits}
use lib.Ieee.Fits.{mul-fits}
use Rattle.relay_math.{specs.F32.{◌⊕◌, ◌⊖◌, ◌⊗◌, 0·0, 1·0, 2·0, is_finite}, proofs.{Signs.zero_is, Zeros.{IsZero, none, equal, is_zero, finite, times, plus, minus}}}
use Rattle.relay_geo.specs.{declared.vectors.Quat.Quat, Vectors.identity3, Attitude.{quat_to_rotmat, ZeroQuat, Level}}

product : {x y : Float} → IsZero x → IsZero y → IsZero (x ⊗ y)
product {x} {y} p q = times x (finite p) q

twice : {x : Float} → IsZero x → IsZero (2·0 ⊗ x)
unfolding is_finite of_bits
twice p = times 2·0 tt p

one_less_zero : (s : Bool) → 1·0 ⊖ fin s 0 (pos 0) ≡ 1·0
unfolding sub add neg sum round of_bits
one_less_zero true = refl
one_less_zero false = refl

one_less : {x : Float} → T (fits binary32 x) → IsZero x → 1·0 ⊖ x ≡ 1·0
one_less F (none s e) = subst (λ (x : Float). 1·0 ⊖ x ≡ 1·0) (sym (zero_is s e F)) (one_less_zero s)

-- an entry of the diagonal
one : {u v : Float} → IsZero u → IsZero v → 1·0 ⊖ 2·0 ⊗ (u ⊗ u ⊕ v ⊗ v) ≡ 1·0
one {u} {v} p q = one_less (mul-fits binary32 2·0 (u ⊗ u ⊕ v ⊗ v)) (twice (plus (product p p) (product q q)))

pub zeros_level : (q : Quat) → ZeroQuat q → Level (quat_to_rotmat q)
unfolding quat_to_rotmat
zeros_level q h =
    let w = is_zero q.0 h.w in let x = is_zero q.1 h.x in let y = is_zero q.2 h.y in
    let z = is_zero q.3 h.z in
    record {
      ones = (one y z, one x z, one x y);
      above = (equal (twice (minus (product x y) (product w z))), equal (twice (plus (product x z) (product w y))), equal (twice (minus (product y z) (product w x))));
      below = (equal (twice (plus (product x y) (product w z))), equal (twice (minus (product x z) (product w y))), equal (twice (plus (product y z) (product w x))));
    }

-- and of +0.0 four times, the identity by bits
pub plus_zeros_identity : quat_to_rotmat (0·0, 0·0, 0·0, 0·0) ≡ identity3
unfolding quat_to_rotmat mul add sub neg sum round of_bits
plus_zeros_identity = refl
