-- f32 as the Rust writes it. Definitions only.
use Rattle.std.specs.Prelude.{ℕ, ◌*◌, ◌/◌, ◌^◌, Bool, true, false, cond, not, ◌&&◌, T, from_bits, Float}
use Rattle.std.specs.Float.{nan, inf, fin, binary32}
use Rattle.std.specs.Float.Ieee.{up, down, add, sub, mul, div, lt, le}

-- Rust's + - * / on f32: each rounds once, and groups to the left as Rust's do
infixl 65 ◌⊕◌
infixl 65 ◌⊖◌
infixl 70 ◌⊗◌
infixl 70 ◌⊘◌
abbrev pub ◌⊕◌ : Float → Float → Float
a ⊕ b = add binary32 a b

abbrev pub ◌⊖◌ : Float → Float → Float
a ⊖ b = sub binary32 a b

abbrev pub ◌⊗◌ : Float → Float → Float
a ⊗ b = mul binary32 a b

abbrev pub ◌⊘◌ : Float → Float → Float
a ⊘ b = div binary32 a b

-- the f32 of a bit pattern, and Rust's literals by theirs
abbrev pub f32 : ℕ → Float
f32 b = from_bits binary32 b

abbrev pub 0·0 : Float
0·0 = f32 0x0000_0000

abbrev pub 1e-3 : Float
1e-3 = f32 0x3a83_126f

abbrev pub 0·1 : Float
0·1 = f32 0x3dcc_cccd

abbrev pub 0·5 : Float
0·5 = f32 0x3f00_0000

abbrev pub 1·0 : Float
1·0 = f32 0x3f80_0000

abbrev pub 1·75 : Float
1·75 = f32 0x3fe0_0000

abbrev pub 2·0 : Float
2·0 = f32 0x4000_0000

abbrev pub 3·0 : Float
3·0 = f32 0x4040_0000

abbrev pub ∞ : Float
∞ = f32 0x7f80_0000

unfoldable pub is_finite : Float → Bool
is_finite nan = false
is_finite (inf s) = false
is_finite (fin s m e) = true

-- x where it is finite, else d
abbrev pub finite_or : Float → Float → Float
finite_or x d = cond (is_finite x) x d

-- x is finite and above floor, so neither a NaN nor an infinity nor floor itself
abbrev pub finite_above : Float → Float → Bool
finite_above floor x = is_finite x && lt floor x

-- x where it is finite and above floor, else d
abbrev pub above_or : Float → Float → Float → Float
above_or floor x d = cond (finite_above floor x) x d

-- Rust's `x.clamp(lo, hi)`: two comparisons in sequence
abbrev pub clamp : Float → Float → Float → Float
clamp x lo hi =
    let y = cond (lt x lo) lo x in
    cond (lt hi y) hi y

-- x held within lo to hi, or d where it is not finite
abbrev pub clamp_or : Float → Float → Float → Float → Float
clamp_or x lo hi d = cond (is_finite x) (clamp x lo hi) d

-- lo ≤ x ≤ hi: false where one of them is a NaN
abbrev pub Within : Float → Float → Float → Type 0
Within lo hi x = T (le lo x) × T (le x hi)

-- +0.0 and what lies above it; -0.0 is out
abbrev pub unsigned : Float → Bool
unsigned nan = false
unsigned (inf s) = not s
unsigned (fin s m e) = not s

-- the sign dropped
unfoldable pub fabsf : Float → Float
fabsf nan = nan
fabsf (inf s) = inf false
fabsf (fin s m e) = fin false m e

-- Every finite f32 is a whole number of grains of 2 ^ -149, the least f32 above zero: how many, the sign dropped
unfoldable pub grains : Float → ℕ
grains nan = 0
grains (inf s) = 0
grains (fin s m e) = m * up e * 2 ^ 149 / down e
