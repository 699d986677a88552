-- Our own steps for sine and cosine, in whole numbers; docs/ANGLES.md tells them in words. Definitions only.
-- R, the rest, and the results are in units of 2 ^ -48; z, its square, and the coefficients k are fractions in units of 2 ^ -32.
use Rattle.std.specs.Prelude.{ℕ, ◌+◌, ◌-◌, ◌*◌, ◌/◌, ◌%◌, ◌^◌, Bool, false, cond, ◌&&◌, pos, negsuc, nat_eq, nat_le, nat_lt, to_bits, Float}
use Rattle.std.specs.Float.{fin, binary32}
use Rattle.std.specs.Float.Ieee.{unlike, round, neg, le}
use Rattle.relay_math.specs.declared.angles.SineCosine.{SineCosine}
use Rattle.relay_math.specs.declared.angles.Reduced.{Reduced}
use Rattle.relay_math.specs.Exact.{gap, Limit, up_to, is_minus}
use Rattle.relay_math.specs.F32.{fabsf}

-- 1, as such a fraction
abbrev pub F : ℕ
F = 2 ^ 32

-- a product of two fractions, cut
abbrev pub part : ℕ → ℕ → ℕ
part z t = z * t / F

-- R ^ 2: the upper 32 digits of R, times themselves
unfoldable pub cut_square : ℕ → ℕ
cut_square R = part (R / 2 ^ 16) (R / 2 ^ 16)

-- one Horner step: k - z t
abbrev pub horner : ℕ → ℕ → ℕ → ℕ
horner z k t = k - part z t

-- R (1 - q)
abbrev pub less_part : ℕ → ℕ → ℕ
less_part R q = R - R / 2 ^ 16 * q / 2 ^ 16

-- R (1 - z (k0 - z (k1 - z (k2 - z k3))))
abbrev pub poly_of : ℕ → ℕ → ℕ → ℕ → ℕ → ℕ → ℕ
poly_of R z k0 k1 k2 k3 = less_part R (part z (horner z k0 (horner z k1 (horner z k2 k3))))

-- 1 / 3!, 1 / 5!, 1 / 7!, and 1 / 9! less 0.59 / 11!
unfoldable pub sin_poly : ℕ → ℕ → ℕ
sin_poly R z = poly_of R z 0x2AAAAAAB 0x2222222 0xD00D0 0x2DFC

-- 1 / 2!, 1 / 4!, 1 / 6!, and 1 / 8! less 0.59 / 10!
unfoldable pub cos_poly : ℕ → ℕ
cos_poly z = poly_of (2 ^ 48) z 0x80000000 0xAAAAAAB 0x5B05B0 0x19D60

-- v / 2 ^ 48, rounded once
unfoldable pub to_float : ℕ → Float
to_float v = round binary32 false v (2 ^ 48)

abbrev pub signed : Bool → Float → Float
signed s v = cond s (neg v) v

-- the size of an x from 2 ^ -12 to 2 ^ 13 in units of 2 ^ -48, by the fields of its bits
unfoldable pub fixed : Float → ℕ
fixed x = (to_bits binary32 x % 2 ^ 23 + 2 ^ 23) * 2 ^ (to_bits binary32 x / 2 ^ 23 % 2 ^ 8 - 102)

-- P in units of 2 ^ -48
abbrev pub P48 : ℕ
P48 = 0x1921FB54442D1

-- the nearest multiple n of P is taken off
unfoldable pub reduce_of : ℕ → Reduced
reduce_of X =
    let n = (X + P48 / 2) / P48 in
    let r = gap X (n * P48) in
    record { n = n % 4; r = r; z = cut_square r; back = nat_lt X (n * P48) }

-- By n: S, C, -S or -C, for a sine S and a cosine C of what is left; S has another sign if b, and all of it if s.
unfoldable pub turned : Bool → ℕ → Bool → Float → Float → Float
turned s n b S C =
    let even = nat_eq (n % 2) 0 in
    signed (unlike (unlike s (nat_le 2 n)) (even && b)) (cond even S C)

abbrev pub turned_by : Bool → ℕ → Reduced → Float
turned_by s n d = turned s n d.back (to_float (sin_poly d.r d.z)) (to_float (cos_poly d.z))

-- the cosine is the sine a quarter of a turn on
unfoldable pub large : Bool → Float → SineCosine
large s x = let d = reduce_of (fixed x) in record { sine = turned_by s d.n d; cosine = turned_by false ((d.n + 1) % 4) d }

-- 0.0, 1.0, 2 ^ -12, and 2 ^ 13, which no limit passes
abbrev pub Zero : Float
Zero = fin false 0 (pos 0)

abbrev pub One : Float
One = fin false 1 (pos 0)

abbrev pub Tiny : Float
Tiny = fin false 1 (negsuc 11)

abbrev pub Most : Float
Most = fin false 1 (pos 13)

-- sine and cosine of x, served up to a limit: +0.0 beyond it, x and 1 below 2 ^ -12
unfoldable pub sincos_to : Float → Float → SineCosine
unfolding fabsf le
sincos_to limit x = cond (up_to limit x) (cond (le Tiny (fabsf x)) (large (is_minus x) x) record { sine = x; cosine = One }) record { sine = Zero; cosine = Zero }

unfoldable pub sincos : Float → SineCosine
unfolding sincos_to
sincos x = sincos_to Limit x

unfoldable pub sinf : Float → Float
unfolding sincos
sinf x = (sincos x).sine

unfoldable pub cosf : Float → Float
unfolding sincos
cosf x = (sincos x).cosine
