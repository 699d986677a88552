-- Vectors and 3x3 matrices, line by line as the Rust has them. Definitions only.
use Rattle.std.specs.Prelude.{Bool, true, false, cond, T, Float, Option, Some, None}
use Rattle.relay_math.specs.declared.Vec3.{Vec3}
use Rattle.relay_math.specs.F32.{f32, ◌⊕◌, ◌⊖◌, ◌⊗◌, ◌⊘◌, 0·0, 0·5, 1·0, is_finite, finite_or, finite_above}
use Rattle.relay_math.specs.Sqrt.{sqrtf}
use Rattle.relay_geo.specs.declared.vectors.Mat3.{Mat3}

abbrev pub 1e-9 : Float
1e-9 = f32 0x3089_705f

abbrev pub 9·81 : Float
9·81 = f32 0x411c_f5c3

abbrev pub gravity_ned : Vec3
gravity_ned = (0·0, 0·0, 9·81)

unfoldable pub cross : Vec3 → Vec3 → Vec3
cross a b = (a.1 ⊗ b.2 ⊖ a.2 ⊗ b.1, a.2 ⊗ b.0 ⊖ a.0 ⊗ b.2, a.0 ⊗ b.1 ⊖ a.1 ⊗ b.0)

unfoldable pub dot : Vec3 → Vec3 → Float
dot a b = a.0 ⊗ b.0 ⊕ a.1 ⊗ b.1 ⊕ a.2 ⊗ b.2

abbrev pub norm : Vec3 → Float
norm a = sqrtf (dot a a)

-- the norm is finite and above 1e-9
abbrev pub long : Float → Bool
long n = finite_above 1e-9 n

-- a / n
abbrev pub over : Vec3 → Float → Vec3
over a n = (a.0 ⊘ n, a.1 ⊘ n, a.2 ⊘ n)

-- the direction of a, n being its norm, or a plain refusal that carries no number
abbrev pub direction_of : Vec3 → Float → Option Vec3
direction_of a n = cond (long n) (Some (over a n)) None

unfoldable pub normalize : Vec3 → Option Vec3
normalize a = let n = norm a in cond (long n) (Some (over a n)) None

abbrev pub identity3 : Mat3
identity3 = ((1·0, 0·0, 0·0), (0·0, 1·0, 0·0), (0·0, 0·0, 1·0))

abbrev pub column0 : Mat3 → Vec3
column0 m = (m.0.0, m.1.0, m.2.0)

abbrev pub column1 : Mat3 → Vec3
column1 m = (m.0.1, m.1.1, m.2.1)

abbrev pub column2 : Mat3 → Vec3
column2 m = (m.0.2, m.1.2, m.2.2)

abbrev pub transpose3 : Mat3 → Mat3
transpose3 m = (column0 m, column1 m, column2 m)

-- an entry of a product, from a row and a column: it starts from 0.0 and adds k = 0, 1, 2
unfoldable pub prod3 : Vec3 → Vec3 → Float
prod3 a b = 0·0 ⊕ a.0 ⊗ b.0 ⊕ a.1 ⊗ b.1 ⊕ a.2 ⊗ b.2

abbrev pub row_times : Vec3 → Mat3 → Vec3
row_times a b = (prod3 a (column0 b), prod3 a (column1 b), prod3 a (column2 b))

unfoldable pub matmul3 : Mat3 → Mat3 → Mat3
matmul3 a b = (row_times a.0 b, row_times a.1 b, row_times a.2 b)

-- the transposed m times v, which does not start from 0.0
unfoldable pub transposed_times : Mat3 → Vec3 → Vec3
unfolding dot
transposed_times m v = (dot (column0 m) v, dot (column1 m) v, dot (column2 m) v)

abbrev pub vee : Mat3 → Vec3
vee m = (0·5 ⊗ (m.2.1 ⊖ m.1.2), 0·5 ⊗ (m.0.2 ⊖ m.2.0), 0·5 ⊗ (m.1.0 ⊖ m.0.1))

abbrev pub sanitise3 : Vec3 → Vec3
sanitise3 v = (finite_or v.0 0·0, finite_or v.1 0·0, finite_or v.2 0·0)

-- ---- for what is proved of them

abbrev pub gives_axis : Option Vec3 → Bool
gives_axis (Some b) = true
gives_axis None = false

-- three finite numbers
pub record Finite3 (v : Vec3) : Type 0 where
  pub x : T (is_finite v.0)
  pub y : T (is_finite v.1)
  pub z : T (is_finite v.2)
