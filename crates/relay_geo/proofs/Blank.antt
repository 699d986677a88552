-- A zero or a NaN: what is made of such numbers, or by a product with zero, is one again. Assumes nothing.
use Rattle.std.specs.Prelude.{None}
use Rattle.laws.proofs.Prelude.{◌≡◌, refl, Bool, true, false, not, and-false, ℕ, ◌*◌, ◌^◌, zero-mul, mul-zero, arith, le-ltb, ℤ, pos, negsuc, Float, nan, inf, fin, binary32, up, down, unlike, round}
use Rattle.laws.proofs.Prelude.{neg, sum, add, sub, mul, lt, of_bits}
use Rattle.relay_math.{specs.{declared.Vec3.Vec3, F32.{◌⊕◌, ◌⊖◌, ◌⊗◌, is_finite}, Sqrt.sqrtf}, proofs.Sums.round_zero}
use Rattle.relay_geo.specs.Vectors.{1e-9, cross, dot, norm, normalize}

pub data Blank : Float → Type 0 where
  number : Blank nan
  none : (s : Bool) (e : ℤ) → Blank (fin s 0 e)

rounded : (s : Bool) (c : ℕ) → Blank (round binary32 s 0 c)
rounded s c = rw (round_zero s c) (none s (pos 0))

-- ---- products, sums, differences, the root

pub by_zero : (x : Float) → Blank (x ⊗ fin false 0 (pos 0))
unfolding mul
by_zero nan = number
by_zero (inf s) = number
by_zero (fin s m e) = rw mul-zero (rounded (unlike s false) (down e * 1))

pub product : {x y : Float} → Blank x → Blank y → Blank (x ⊗ y)
unfolding mul
product number q = number
product (none s e) number = number
product (none s e) (none t d) = simp zero-mul (rounded (unlike s t) (down e * down d))

zeros : (s t : Bool) (c : ℕ) → Blank (sum binary32 s 0 t 0 c)
unfolding sum
zeros true true c = rounded true c
zeros true false c = rounded false c
zeros false true c = rounded false c
zeros false false c = rounded false c

pub total : {x y : Float} → Blank x → Blank y → Blank (x ⊕ y)
unfolding add
total number q = number
total (none s e) number = number
total (none s e) (none t d) = simp zero-mul (zeros s t (down e * down d))

pub less : {x y : Float} → Blank x → Blank y → Blank (x ⊖ y)
unfolding sub neg
less p number = total p number
less p (none t d) = total p (none (not t) d)

pub root : {x : Float} → Blank x → Blank (sqrtf x)
unfolding sqrtf
root number = number
root (none s e) = none s e

-- ---- no such number is above 1e-9

pub 1e-9-is : 1e-9 ≡ fin false 9007199 (negsuc 52)
unfolding of_bits
1e-9-is = refl

not_above : {x : Float} → Blank x → lt 1e-9 x ≡ false
unfolding lt
not_above number = rw 1e-9-is
not_above (none true e) = rw 1e-9-is
not_above (none false e) = rw 1e-9-is (le-ltb (9007199 * 1 * down e) (0 * up e * 2 ^ 53) (omega arith))

-- the three numbers of a vector
pub record Blank3 (v : Vec3) : Type 0 where
  pub x : Blank v.0
  pub y : Blank v.1
  pub z : Blank v.2

pub norm_blank : (v : Vec3) → Blank3 v → Blank (norm v)
unfolding dot
norm_blank v b = root (total (total (product b.x b.x) (product b.y b.y)) (product b.z b.z))

pub cross_blank : (v : Vec3) → Blank3 (cross v (fin false 0 (pos 0), fin false 0 (pos 0), fin false 0 (pos 0)))
unfolding cross
cross_blank v = record { x = less (by_zero v.1) (by_zero v.2); y = less (by_zero v.2) (by_zero v.0); z = less (by_zero v.0) (by_zero v.1) }

pub blank_refused : (v : Vec3) → Blank3 v → normalize v ≡ None
unfolding normalize
blank_refused v b = rw (not_above (norm_blank v b), and-false (is_finite (norm v)))
