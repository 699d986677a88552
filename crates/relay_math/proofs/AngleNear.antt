-- Nearness to an exact value: from units of 2 ^ -149, under a sign, by quadrants, after rounding. Assumes nothing.
use Rattle.laws.proofs.Prelude.{◌≡◌, refl, ap, subst, Bool, true, false, ◌&&◌, cond, ℕ, zero, suc, ◌+◌, ◌*◌, ◌%◌, ◌^◌, ◌≤◌, ◌<◌, le_trans, mul-le-mul_left, mul-le-mul_right, arith, leb, eqb, lit<}
use Rattle.laws.proofs.Prelude.{lit≤, pow_mono, Float, nan, inf, fin, up, down, neg, unlike}
use Rattle.std.proofs.Common.{le-add_right}
use native.Mathlib.Nat.{le_of_mul-le-mul_left}
use lib.Ieee.Exact.{HasValue}
use Rattle.relay_math.specs.{Exact.{gap, Value, negated, negated_if, Near, sin_at, cos_at, sine_by, cosine_by}, Steps.{cut_square, sin_poly, cos_poly, to_float, signed, turned}}
use Rattle.relay_math.proofs.{Signs.of_value, Horner.{Nest, Close, carry}, Round.rounded, Fixed.{One, Half, Err, sin_most, cos_most, sin_fixed, cos_fixed}}

-- A / C = G / L, and G / L is within E / L of (P - N) / D
apart : (A C G L D N P E : ℕ) → 0 < L → A * L ≡ G * C → 8388608 * E ≤ L → G * D + L * N ≤ L * P + E * D → L * P ≤ G * D + L * N + E * D
    → 8388608 * gap (A * D + N * C) (P * C + 0 * D) ≤ C * D
apart A C G L D N P E Z e small hi lo =
    let m : A * L * D ≡ G * C * D = ap (λ (x : ℕ). x * D) e in
    let h : C * (G * D + L * N) ≤ C * (L * P + E * D) = mul-le-mul_left C hi in
    let l : C * (L * P) ≤ C * (G * D + L * N + E * D) = mul-le-mul_left C lo in
    let s : 8388608 * E * (C * D) ≤ L * (C * D) = mul-le-mul_right (C * D) small in
    let u : 8388608 * (A * D + C * N) ≤ 8388608 * (C * P) + C * D = le_of_mul-le-mul_left {k = L} (omega arith) Z in
    let v : 8388608 * (C * P) ≤ 8388608 * (A * D + C * N) + C * D = le_of_mul-le-mul_left {k = L} (omega arith) Z in
    omega (arith, u, v)

abbrev value_of : Nest → Value
value_of x = record { plus = x.p; minus = x.n; over = x.w }

pub near_of : (y : Float) (G E : ℕ) (x : Nest) → HasValue y false G (2 ^ 149) → 8388608 * E ≤ 2 ^ 149 → Close (2 ^ 149) E G x → Near 23 y (value_of x)
near_of y G E x h k c =
    of_value (λ (y : Float). Near 23 y (value_of x)) false G (2 ^ 149)
    (λ m e v. apart (m * up e) (down e) G (2 ^ 149) x.w x.n x.p E (lit< tt) v.1 k c.hi c.lo) y h

-- a wider bound
pub wider : (k : ℕ) (y : Float) (v : Value) → Near (k + 3) y v → Near k y v
wider k nan v h = h
wider k (inf t) v h = h
wider k (fin true m e) v h = le_trans (mul-le-mul_right _ (pow_mono (le-add_right k 3))) h
wider k (fin false m e) v h = le_trans (mul-le-mul_right _ (pow_mono (le-add_right k 3))) h

-- ---- signs
mirrored : (A C p n w : ℕ) → gap (0 * w + p * C) (n * C + A * w) ≡ gap (A * w + n * C) (p * C + 0 * w)
mirrored A C p n w = omega arith

near_neg : (y : Float) (v : Value) → Near 23 y v → Near 23 (neg y) (negated v)
unfolding neg
near_neg (fin true m e) v h = rw (← mirrored (m * up e) (down e) v.minus v.plus v.over) h
near_neg (fin false m e) v h = rw (mirrored (m * up e) (down e) v.plus v.minus v.over) h
near_neg nan v h = elim h [ ]
near_neg (inf _) v h = elim h [ ]

near_signed : (s : Bool) (y : Float) (v : Value) → Near 23 y v → Near 23 (signed s y) (negated_if s v)
near_signed true y v h = near_neg y v h
near_signed false y v h = h

-- ---- quadrants
abbrev value_at : Bool → ℕ → Bool → ℕ → Value
value_at s n b R = let even = eqb (n % 2) 0 in negated_if (unlike (unlike s (leb 2 n)) (even && b)) (cond even (sin_at false R) (cos_at R))

abbrev Exact : ℕ → ℕ → Bool → Bool → Type 0
Exact R n s b = (value_at s n b R ≡ sine_by (cond s (3 * n % 4) n) (unlike s b) R) × (value_at false ((n + 1) % 4) b R ≡ cosine_by (cond s (3 * n % 4) n) (unlike s b) R)

each : (P : Bool → Bool → Type 0) → P true true → P true false → P false true → P false false → (s b : Bool) → P s b
each P tt tf ft ff true true = tt
each P tt tf ft ff true false = tf
each P tt tf ft ff false true = ft
each P tt tf ft ff false false = ff

exact : (R n : ℕ) → n < 4 → (s b : Bool) → Exact R n s b
unfolding sine_by cosine_by
exact R zero l = each (Exact R 0) (refl, refl) (refl, refl) (refl, refl) (refl, refl)
exact R (suc zero) l = each (Exact R 1) (refl, refl) (refl, refl) (refl, refl) (refl, refl)
exact R (suc (suc zero)) l = each (Exact R 2) (refl, refl) (refl, refl) (refl, refl) (refl, refl)
exact R (suc (suc (suc zero))) l = each (Exact R 3) (refl, refl) (refl, refl) (refl, refl) (refl, refl)
exact R (suc (suc (suc (suc n)))) l = absurd (omega arith)

module _ (S C : Float) (R : ℕ) (sin : Near 23 S (sin_at false R)) (cos : Near 23 C (cos_at R)) where
  turned_near : (s : Bool) (n : ℕ) (b : Bool) → Near 23 (turned s n b S C) (value_at s n b R)
  unfolding turned
  turned_near s n b = let even = eqb (n % 2) 0 in near_signed (unlike (unlike s (leb 2 n)) (even && b)) (cond even S C) (cond even (sin_at false R) (cos_at R)) (go even)
    where
      go : (t : Bool) → Near 23 (cond t S C) (cond t (sin_at false R) (cos_at R))
      go true = sin
      go false = cos

  pub quarters : (s b : Bool) (n : ℕ) → n < 4 → Near 23 (turned s n b S C) (sine_by (cond s (3 * n % 4) n) (unlike s b) R) × Near 23 (turned false ((n + 1) % 4) b S C)
      (cosine_by (cond s (3 * n % 4) n) (unlike s b) R)
  quarters s b n l =
      let e = exact R n l s b in
      (subst (Near 23 (turned s n b S C)) e.0 (turned_near s n b), subst (Near 23 (turned false ((n + 1) % 4) b S C)) e.1 (turned_near false ((n + 1) % 4) b))

-- ---- rounding adds at most 2 ^ -24
rounded_near : (v : ℕ) (x : Nest) → v ≤ One → Close One Err v x → Near 23 (to_float v) (value_of x)
unfolding to_float
rounded_near v x h c =
    let y = rounded v One (lit< tt) h in
    near_of (to_float v) y.0 (2 ^ 126) x y.1 (lit≤ tt) (carry (2 ^ 149) (2 ^ 125) (2 ^ 126) y.0 (lit< tt) y.2 y.3 (lit≤ tt) c)

module _ (R : ℕ) (S : R ≤ Half) where
  pub sin_near : Near 23 (to_float (sin_poly R (cut_square R))) (sin_at false (R * 2 ^ 101))
  sin_near = rounded_near (sin_poly R (cut_square R)) _ (sin_most R (cut_square R) S) (sin_fixed R (2 ^ 101) (lit< tt) S)

  pub cos_near : Near 23 (to_float (cos_poly (cut_square R))) (cos_at (R * 2 ^ 101))
  cos_near = rounded_near (cos_poly (cut_square R)) _ (cos_most (cut_square R)) (cos_fixed R (2 ^ 101) (lit< tt) S)
