-- Request Eleven: `attitude_error` with actual and desired exchanged. Assumes nothing.
use Rattle.laws.proofs.Prelude.{◌≡◌, refl, arith, pos, T, lit<, lit≤, Float, nan, inf, fin, neg, add, sub, mul, le, eq, of_bits}
use Rattle.relay_math.specs.{declared.Vec3.Vec3, F32.{◌⊖◌, ◌⊗◌, f32, 0·0, 0·5, 1·0, 2·0, is_finite, fabsf}}
use Rattle.relay_geo.proofs.{Opposites.{times_comm, equal, less, halved}, Upto.{Upto, le_is, upto_finite, times_upto, plus_upto, minus_upto}}
use Rattle.relay_geo.specs.{declared.vectors.Mat3.Mat3, Vectors.{identity3, column0, column1, column2, prod3}, Controller.{psi, difference, attitude_error}}

-- ---- an entry of Rᵀ R_d is one of R_dᵀ R, bit for bit

prod3_comm : (a b : Vec3) → prod3 a b ≡ prod3 b a
unfolding prod3
prod3_comm a b = rw (times_comm a.0 b.0, times_comm a.1 b.1, times_comm a.2 b.2)

-- so psi stays as it is, bit for bit, for all matrices
pub psi_swapped : (r rd : Mat3) → psi rd r ≡ psi r rd
unfolding psi
psi_swapped r rd = rw (prod3_comm (column0 r) (column0 rd), prod3_comm (column1 r) (column1 rd), prod3_comm (column2 r) (column2 rd))

-- and the difference of the exchanged is the one across the diagonal
across : (r rd : Mat3) (i j : Mat3 → Vec3) → difference rd r i j ≡ difference r rd j i
across r rd i j = rw (prod3_comm (i r) (j rd), prod3_comm (i rd) (j r))

-- ---- the request

abbrev pub 1000·0 : Float
1000·0 = f32 0x447a_0000

-- three numbers of at most 1000 in size. A NaN and an infinity are not.
pub record Bounded3 (v : Vec3) : Type 0 where
  pub x : T (le (fabsf v.0) 1000·0)
  pub y : T (le (fabsf v.1) 1000·0)
  pub z : T (le (fabsf v.2) 1000·0)

abbrev pub Bounded : Mat3 → Type 0
Bounded m = Bounded3 m.0 × Bounded3 m.1 × Bounded3 m.2

-- each number of v is the negative of w's by `==`, to which -0.0 and 0.0 are one
pub record Negative (v w : Vec3) : Type 0 where
  pub x : T (eq v.0 (neg w.0))
  pub y : T (eq v.1 (neg w.1))
  pub z : T (eq v.2 (neg w.2))

thousand : (x : Float) → T (le (fabsf x) 1000·0) → Upto 1000 x
unfolding fabsf of_bits le
thousand nan h = absurd h
thousand (inf s) h = absurd h
thousand (fin s m e) h = omega (arith, le_is m e 125 (pos 3) h)

-- three numbers of at most 1000 in size, as a column has them
abbrev Small : Vec3 → Type 0
Small v = Upto 1000 v.0 × Upto 1000 v.1 × Upto 1000 v.2

module _ (m : Mat3) (h : Bounded m) where
  small0 : Small (column0 m)
  small0 = (thousand m.0.0 h.0.x, thousand m.1.0 h.1.x, thousand m.2.0 h.2.x)

  small1 : Small (column1 m)
  small1 = (thousand m.0.1 h.0.y, thousand m.1.1 h.1.y, thousand m.2.1 h.2.y)

  small2 : Small (column2 m)
  small2 = (thousand m.0.2 h.0.z, thousand m.1.2 h.1.z, thousand m.2.2 h.2.z)

product : (x y : Float) → Upto 1000 x → Upto 1000 y → Upto 1000000 (x ⊗ y)
product x y p q = times_upto 1000 1000 (lit< tt) x y p q

entry : (a b : Vec3) → Small a → Small b → Upto 3000000 (prod3 a b)
unfolding prod3 of_bits
entry a b p q =
    plus_upto 2000000 1000000 (lit< tt) _ _
    (plus_upto 1000000 1000000 (lit< tt) _ _ (plus_upto 0 1000000 (lit< tt) 0·0 _ (lit≤ tt) (product a.0 b.0 p.0 q.0)) (product a.1 b.1 p.1 q.1))
    (product a.2 b.2 p.2 q.2)

difference_finite : (a b c d : Vec3) → Small a → Small b → Small c → Small d → T (is_finite (prod3 a b ⊖ prod3 c d))
difference_finite a b c d p q u v = upto_finite 6000000 _ (minus_upto 3000000 3000000 (lit< tt) _ _ (entry a b p q) (entry c d u v))

component : (r rd : Mat3) (i j : Mat3 → Vec3) → Small (i r) → Small (j r) → Small (i rd) → Small (j rd)
    → T (eq (0·5 ⊗ (difference rd r i j ⊖ difference rd r j i)) (neg (0·5 ⊗ (difference r rd i j ⊖ difference r rd j i))))
component r rd i j p q u v =
    rw (across r rd i j, across r rd j i)
    (equal (halved (less (difference r rd j i) (difference r rd i j) (difference_finite (j rd) (i r) (j r) (i rd) v p q u) (difference_finite (i rd) (j r) (i r) (j rd) u q p v))))

-- "with all entries finite and at most 1000 in size, exchanging the matrices of `attitude_error` gives the negative in each component, zero counting as
-- its own negative". The bound serves one thing, that no sum or difference on the way overflows: then none of them is inf - inf.
pub error_swapped : (r rd : Mat3) → Bounded r → Bounded rd → Negative (attitude_error rd r) (attitude_error r rd)
unfolding attitude_error
error_swapped r rd h k =
    record {
      x = component r rd column2 column1 (small2 r h) (small1 r h) (small2 rd k) (small1 rd k);
      y = component r rd column0 column2 (small0 r h) (small2 r h) (small0 rd k) (small2 rd k);
      z = component r rd column1 column0 (small1 r h) (small0 r h) (small1 rd k) (small0 rd k);
    }

-- ---- shown: a quarter turn about the third axis, against none; and that some bound is needed

abbrev -1·0 : Float
-1·0 = f32 0xbf80_0000

abbrev quarter : Mat3
quarter = ((0·0, -1·0, 0·0), (1·0, 0·0, 0·0), (0·0, 0·0, 1·0))

pub quarter_turn : (attitude_error quarter identity3 ≡ (0·0, 0·0, 2·0)) × (attitude_error identity3 quarter ≡ (0·0, 0·0, f32 0xc000_0000))
unfolding attitude_error prod3 mul add sub of_bits
quarter_turn = (refl, refl)

-- 2⁶⁴ in every entry: each product overflows, and each component is inf - inf
abbrev large : Mat3
large = let x = f32 0x5f80_0000 in ((x, x, x), (x, x, x), (x, x, x))

pub not_beyond : attitude_error large large ≡ (nan, nan, nan)
unfolding attitude_error prod3 mul add sub of_bits
not_beyond = refl
