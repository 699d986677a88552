-- Document 01's exact values of sine and cosine, on whole numbers. Definitions only.
use Rattle.std.specs.Prelude.{◌≡◌, ℕ, zero, suc, ◌+◌, ◌-◌, ◌*◌, ◌/◌, ◌%◌, ◌^◌, ◌≤◌, Bool, true, false, cond, not, T, pos, ◌==◌, nat_le, nat_lt, Float}
use Rattle.std.specs.Float.{nan, inf, fin}
use Rattle.std.specs.Float.Ieee.{up, down, unlike, le}
use Rattle.relay_math.specs.F32.{grains, fabsf}

-- ---- numbers as fractions

-- the number (plus - minus) / over
pub record Value : Type 0 where
  pub plus : ℕ
  pub minus : ℕ
  pub over : ℕ

abbrev pub negated : Value → Value
negated v = record { plus = v.minus; minus = v.plus; over = v.over }

abbrev pub negated_if : Bool → Value → Value
negated_if b v = cond b (negated v) v

abbrev pub gap : ℕ → ℕ → ℕ
gap a b = (a - b) + (b - a)

-- u and v are at most 2 ^ -k apart, multiplied out
abbrev pub NearValue : ℕ → Value → Value → Type 0
NearValue k u v = 2 ^ k * gap (u.plus * v.over + v.minus * u.over) (v.plus * u.over + u.minus * v.over) ≤ u.over * v.over

-- the float y is a number at most 2 ^ -k from v
abbrev pub Near : ℕ → Float → Value → Type 0
Near k nan v = ⊥
Near k (inf s) v = ⊥
Near k (fin false m e) v = NearValue k record { plus = m * up e; minus = 0; over = down e } v
Near k (fin true m e) v = NearValue k record { plus = 0; minus = m * up e; over = down e } v

-- ---- the first eight Taylor terms

abbrev pub fact : ℕ → ℕ
fact zero = 1
fact (suc n) = suc n * fact n

-- r ^ k / k! at r = R / B, as a numerator over top! * B ^ top
abbrev pub term : ℕ → ℕ → ℕ → ℕ → ℕ
term top R B k = R ^ k * B ^ (top - k) * (fact top / fact k)

abbrev pub denominator : ℕ → ℕ → ℕ
denominator top B = fact top * B ^ top

-- sine: r - r ^ 3 / 3! + .. - r ^ 15 / 15!
abbrev pub sin_plus : ℕ → ℕ → ℕ
sin_plus R B = term 15 R B 1 + term 15 R B 5 + term 15 R B 9 + term 15 R B 13

abbrev pub sin_minus : ℕ → ℕ → ℕ
sin_minus R B = term 15 R B 3 + term 15 R B 7 + term 15 R B 11 + term 15 R B 15

-- cosine: 1 - r ^ 2 / 2! + .. - r ^ 14 / 14!
abbrev pub cos_plus : ℕ → ℕ → ℕ
cos_plus R B = term 14 R B 0 + term 14 R B 4 + term 14 R B 8 + term 14 R B 12

abbrev pub cos_minus : ℕ → ℕ → ℕ
cos_minus R B = term 14 R B 2 + term 14 R B 6 + term 14 R B 10 + term 14 R B 14

-- at r = ±R grains, b saying that r is negative: sine is odd, cosine even
abbrev pub sin_at : Bool → ℕ → Value
sin_at b R = negated_if b record { plus = sin_plus R (2 ^ 149); minus = sin_minus R (2 ^ 149); over = denominator 15 (2 ^ 149) }

abbrev pub cos_at : ℕ → Value
cos_at R = record { plus = cos_plus R (2 ^ 149); minus = cos_minus R (2 ^ 149); over = denominator 14 (2 ^ 149) }

-- ---- n and r, from |x| = u grains

-- P = 0x1921FB54442D1 / 2 ^ 48 in grains of 2 ^ -149
abbrev pub P149 : ℕ
P149 = 0x1921FB54442D1 * 2 ^ 101

-- |n|: 0 up to P / 2, else the whole number nearest u / P
unfoldable pub turns : ℕ → ℕ
turns u = cond (nat_le (2 * u) P149) 0 ((2 * u + P149) / (2 * P149))

-- |r| = |u - n P|, and whether u - n P is negative
unfoldable pub turn_rest : ℕ → ℕ
turn_rest u = gap u (turns u * P149)

unfoldable pub back : ℕ → Bool
back u = nat_lt u (turns u * P149)

-- n modulo 4, n having the sign s of x: -n is 3 n modulo 4
unfoldable pub quarter : Bool → ℕ → ℕ
quarter s u = cond s (3 * turns u % 4) (turns u % 4)

-- by n modulo 4 as in 004: sin r, cos r, -sin r, -cos r
unfoldable pub sine_by : ℕ → Bool → ℕ → Value
sine_by n b R = cond (n == 0) (sin_at b R) (cond (n == 1) (cos_at R) (cond (n == 2) (negated (sin_at b R)) (negated (cos_at R))))

-- cos r, -sin r, -cos r, sin r
unfoldable pub cosine_by : ℕ → Bool → ℕ → Value
cosine_by n b R = cond (n == 0) (cos_at R) (cond (n == 1) (negated (sin_at b R)) (cond (n == 2) (negated (cos_at R)) (sin_at b R)))

-- the exact sine and cosine of u grains, negative if s
unfoldable pub exact_sine : Bool → ℕ → Value
exact_sine s u = sine_by (quarter s u) (unlike s (back u)) (turn_rest u)

unfoldable pub exact_cosine : Bool → ℕ → Value
exact_cosine s u = cosine_by (quarter s u) (unlike s (back u)) (turn_rest u)

-- ---- the rule

-- LIMIT = 2 ^ 13: sine and cosine are served up to this size (document 01 has 2 ^ 7, request Five this)
abbrev pub Limit : Float
Limit = fin false 1 (pos 13)

-- |x| is at most the limit: of no NaN, and of no infinity where the limit is finite
abbrev pub up_to : Float → Float → Bool
up_to limit x = le (fabsf x) limit

unfoldable pub in_range : Float → Bool
unfolding le fabsf
in_range x = up_to Limit x

abbrev pub is_minus : Float → Bool
is_minus nan = false
is_minus (inf s) = s
is_minus (fin s m e) = s

-- document 01's rule for y, the sine of x, with a limit and a bound 2 ^ -k: near the exact sine up to the limit, +0.0 beyond it, and of a zero that zero
pub record IsSine (limit : Float) (k : ℕ) (x y : Float) : Type 0 where
  pub near : T (up_to limit x) → Near k y (exact_sine (is_minus x) (grains x))
  pub far : T (not (up_to limit x)) → y ≡ fin false 0 (pos 0)
  pub of_zero : (s : Bool) → x ≡ fin s 0 (pos 0) → y ≡ x

-- and for y, the cosine of x: of a zero it is 1
pub record IsCosine (limit : Float) (k : ℕ) (x y : Float) : Type 0 where
  pub near : T (up_to limit x) → Near k y (exact_cosine (is_minus x) (grains x))
  pub far : T (not (up_to limit x)) → y ≡ fin false 0 (pos 0)
  pub of_zero : (s : Bool) → x ≡ fin s 0 (pos 0) → y ≡ fin false 1 (pos 0)
