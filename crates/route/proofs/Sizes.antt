-- A leg's coefficients are so much smaller than the largest f32 that the factors of its velocity do not overflow. Assumes nothing.
use Rattle.laws.proofs.Prelude.{◌≡◌, subst, Bool, true, false, ℕ, zero, suc, ◌*◌, ◌^◌, ◌≤◌, ◌<◌, zero-mul, mul-one, one-mul, mul_assoc, mul-pos, mul-le-mul, mul-le-mul_left, mul-le-mul_right}
use Rattle.laws.proofs.Prelude.{le_of_mul-le-mul_right}
use Rattle.laws.proofs.Prelude.{le_trans, le_of_eq, le_of_suc-le-suc, mul_right_comm, eqb, leb→le, lit<, pow_mono, T, ℤ, pos, Float, nan, inf, fin, binary32, fits, up, down, unlike, round, le, neg}
use Rattle.laws.proofs.Prelude.{mul, div, of_bits}
use Prim.Native.Nat.{zero-le}
use lib.Ieee.{Fits.down_pos, Order.round_mono}
use Rattle.relay_math.specs.{F32.{◌⊗◌, ◌⊘◌, 0·0, is_finite, finite_or, grains}, Steps.signed}
use Rattle.relay_math.proofs.{Signs.{le_is, of_rounded}, Sums.round_own, Round.round_signed, Grains.{grains_exact, reads}, FiniteOr.finite_or_keeps}

-- the size of a number is n at most
abbrev pub Under : ℕ → Float → Type 0
Under n nan = ⊥
Under n (inf s) = ⊥
Under n (fin s m e) = m * up e ≤ n * down e

pub finite : (n : ℕ) (x : Float) → Under n x → T (is_finite x)
unfolding is_finite
finite n (fin s m e) h = tt
finite n nan h = elim h [ ]
finite n (inf _) h = elim h [ ]

either_sign : (s : Bool) (n : ℕ) (x : Float) → Under n x → Under n (signed s x)
unfolding neg
either_sign false n x h = h
either_sign true n (fin s m e) h = h
either_sign true n nan h = elim h [ ]
either_sign true n (inf _) h = elim h [ ]

-- a fraction that is m * 2 ^ g at most, which is an f32, is so when it is rounded
rounded : (s : Bool) (a c m g : ℕ) → 0 < c → T (fits binary32 (fin false m (pos g))) → a ≤ m * 2 ^ g * c → Under (m * 2 ^ g) (round binary32 s a c)
rounded s a c m g C f h =
    rw (round_signed s a c) (either_sign s (m * 2 ^ g) (round binary32 false a c)
    (of_rounded (λ (x : Float). T (le x (fin false m (pos g))) → Under (m * 2 ^ g) x) false
    (λ n e p. let r : n * up e * 1 ≤ m * 2 ^ g * down e = leb→le _ _ (subst T (le_is n e m (pos g)) p) in rw mul-one at r) (λ p. absurd (unfold le in p)) a c
    (subst (λ (y : Float). T (le (round binary32 false a c) y)) (round_own m (pos g) f) (round_mono binary32 a c (m * 2 ^ g) 1 C (lit< tt) (rw (mul-one a) h)))))

-- every f32 is so by the largest
abbrev MOST : ℕ
MOST = 16777215 * 2 ^ 104

cut : (a g d p m : ℕ) → a * p ≡ g * d → g ≤ m * p → 0 < p → a ≤ m * d
cut a g d p m h k l = le_of_mul-le-mul_right {k = p} (le_trans (le_of_eq h) (le_trans (mul-le-mul_right d k) (le_of_eq (mul_right_comm m p d)))) l

most : (s : Bool) (m : ℕ) (e : ℤ) → T (fits binary32 (fin s m e)) → m * up e ≤ MOST * down e
unfolding fits
most s zero e f = rw (zero-mul (up e)) zero-le
most s (suc m) e f =
    let d = reads (suc m) e f in
    let g : grains (fin false (suc m) e) ≤ MOST * 2 ^ 149 = rw d.is (mul-le-mul (le_of_suc-le-suc d.few) (pow_mono (le_of_suc-le-suc d.under))) in
    cut (suc m * up e) (grains (fin false (suc m) e)) (down e) (2 ^ 149) MOST (grains_exact false (suc m) e f) g (lit< tt)

-- ---- divided by n * 2 ^ j a number is m * 2 ^ g at most, and that times k * 2 ^ i is a * 2 ^ b at most: so both are finite

module _ (n j m g k i a b : ℕ) (some : eqb n 0 ≡ false) (more : 0 < n * 2 ^ j) (f : T (fits binary32 (fin false m (pos g)))) (h : MOST ≤ m * 2 ^ g * (n * 2 ^ j))
    (f' : T (fits binary32 (fin false a (pos b)))) (h' : k * 2 ^ i * (m * 2 ^ g) ≤ a * 2 ^ b) where
  times : (y : Float) → Under (m * 2 ^ g) y → Under (a * 2 ^ b) (fin false k (pos i) ⊗ y)
  unfolding mul
  times (fin s x e) u =
      rounded (unlike false s) (k * 2 ^ i * (x * up e)) (1 * down e) a b (rw (one-mul (down e)) (down_pos e)) f'
      (rw (one-mul (down e)) (le_trans (mul-le-mul_left (k * 2 ^ i) u) (rw (← mul_assoc (k * 2 ^ i) (m * 2 ^ g) (down e)) (mul-le-mul_right (down e) h'))))
  times nan u = elim u [ ]
  times (inf _) u = elim u [ ]

  pub divided : (x : Float) → T (fits binary32 x) → T (is_finite x) → let y = x ⊘ fin false n (pos j) in T (is_finite y) × T (is_finite (fin false k (pos i) ⊗ y))
  unfolding div is_finite
  divided (fin s x e) l t =
      let y = fin s x e ⊘ fin false n (pos j) in
      let d : x * up e * 1 ≤ m * 2 ^ g * (n * 2 ^ j * down e) = rw (mul-one (x * up e), ← mul_assoc (m * 2 ^ g) (n * 2 ^ j) (down e)) (le_trans (most s x e l) (mul-le-mul_right (down e) h)) in
      let u : Under (m * 2 ^ g) y = rw some (rounded (unlike s false) (x * up e * 1) (n * 2 ^ j * down e) m g (mul-pos more (down_pos e)) f d) in
      (finite (m * 2 ^ g) y u, finite (a * 2 ^ b) (fin false k (pos i) ⊗ y) (times y u))
  divided nan l t = elim t [ ]
  divided (inf _) l t = elim t [ ]

  pub mended : (x : Float) → T (fits binary32 x) → let y = finite_or (x ⊘ fin false n (pos j)) 0·0 in T (is_finite y) × T (is_finite (fin false k (pos i) ⊗ y))
  unfolding div is_finite of_bits
  mended nan l = (tt, finite (a * 2 ^ b) (fin false k (pos i) ⊗ 0·0) (times 0·0 zero-le))
  mended (inf s) l = (tt, finite (a * 2 ^ b) (fin false k (pos i) ⊗ 0·0) (times 0·0 zero-le))
  mended (fin s x e) l = let d = divided (fin s x e) l tt in rw (finite_or_keeps (fin s x e ⊘ fin false n (pos j)) 0·0 d.0) d
