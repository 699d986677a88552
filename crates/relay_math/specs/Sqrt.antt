-- The square root of IEEE 754 at binary32, rounded to nearest. Definitions only.
use Rattle.std.specs.Prelude.{◌≡◌, ℕ, zero, suc, ◌+◌, ◌-◌, ◌*◌, ◌/◌, ◌^◌, ◌<◌, Bool, true, false, cond, T, nat_le, Float}
use Rattle.std.specs.Float.{nan, inf, fin, binary32}
use Rattle.std.specs.Float.Ieee.{fits, size, odd}
use Rattle.relay_math.specs.F32.{grains}

-- finite, and not below zero (-0 is left out)
abbrev pub natural : Float → Bool
natural nan = false
natural (inf s) = false
natural (fin true m e) = false
natural (fin false m e) = true

abbrev pub square : ℕ → ℕ
square a = a * a

-- r is an f32, and no other f32 y lies as near the root of x. r is nearer than a larger y where √x is below their middle, 4 x < (r + y) ^ 2,
-- and nearer than a smaller y where √x is above it. With x = X, r = R and y = Y grains that is 4 * (X * 2 ^ 149) against (R + Y) ^ 2.
-- (A y below zero is further off than zero is.) Both are strict: a tie never occurs, so the rule for ties has nothing to decide.
pub record Nearest (x r : Float) : Type 0 where
  pub holds : T (fits binary32 r)
  pub number : T (natural r)
  pub above : (y : Float) → T (fits binary32 y) → T (natural y) → grains r < grains y → 4 * (grains x * 2 ^ 149) < square (grains r + grains y)
  pub below : (y : Float) → T (fits binary32 y) → T (natural y) → grains y < grains r → square (grains r + grains y) < 4 * (grains x * 2 ^ 149)

-- r is the square root of x
abbrev pub IsRoot : Float → Float → Type 0
IsRoot nan r = r ≡ nan
IsRoot (inf true) r = r ≡ nan
IsRoot (inf false) r = r ≡ inf false
IsRoot (fin s zero e) r = r ≡ fin s zero e
IsRoot (fin true (suc m) e) r = r ≡ nan
IsRoot (fin false (suc m) e) r = Nearest (fin false (suc m) e) r

-- ---- the root as a function: it computes, and `proofs/Root.antt` proves `IsRoot x (sqrtf x)` of every f32 x

-- The whole part of the root of n, for an n below 4 ^ d. Two digits of n make one of its root (digits are binary): r is the root without its last digit,
-- which is 1 where (2 r + 1) ^ 2 is still at most n.
unfoldable pub isqrt : ℕ → ℕ → ℕ
isqrt zero n = 0
isqrt (suc d) n = let r = isqrt d (n / 4) in cond (nat_le (square (suc (2 * r))) n) (suc (2 * r)) (2 * r)

-- The whole number nearest to the root of an n below 2 ^ 48: q, the whole part, or q + 1 where n is above (q + 1 / 2) ^ 2 = q * q + q + 1 / 4, which no whole number is.
unfoldable pub nearest_root : ℕ → ℕ
unfolding isqrt
nearest_root n = let q = isqrt 24 n in cond (nat_le n (q * q + q)) q (suc q)

-- An x of X grains is X / 2 ^ 149, and its root is √N grains, with N = X * 2 ^ 149. N has `size N` digits. Without its last 2 k, which are zeros, it has 47 or 48, and
-- their root n has the 24 that an f32 keeps. So the root is n * 2 ^ k grains: `odd 25 false n k 149` is the float n * 2 ^ k / 2 ^ 149, written with an odd number.
unfoldable pub root_grains : ℕ → Float
unfolding nearest_root size odd
root_grains N =
    let k = (size N - 47) / 2 in
    let n = nearest_root (N / (2 ^ k * 2 ^ k)) in
    odd 25 false n k 149

unfoldable pub sqrtf : Float → Float
unfolding root_grains
sqrtf nan = nan
sqrtf (inf true) = nan
sqrtf (inf false) = inf false
sqrtf (fin s zero e) = fin s zero e
sqrtf (fin true (suc m) e) = nan
sqrtf (fin false (suc m) e) = root_grains (grains (fin false (suc m) e) * 2 ^ 149)
