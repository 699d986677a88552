-- |x| in units of 2 ^ -48, by the fields of its bits; and n and r: the reduction in those units is the exact one in grains, which takes off the nearest multiple of P. Assumes nothing.
use Rattle.laws.proofs.Prelude.{◌≡◌, refl, sym, ap, ◌∙◌, subst, Bool, true, false, not, cond, inl, inr, ℕ, ◌+◌, ◌*◌, ◌-◌, ◌/◌, ◌%◌, ◌^◌, ◌≤◌, ◌<◌, le_of_lt, lt_of_lt_of_le, lt_of_le_of_lt}
use Rattle.laws.proofs.Prelude.{lt_of_not-le, not-le_of_lt, mul_comm, mul_assoc, mul-le-mul_right, le_of_mul-le-mul_right, mul-lt-mul_of_pos_right, mod-lt, mul-pos, div-mul-le_self, arith, le-ltb}
use Rattle.laws.proofs.Prelude.{le-leb, ℤ, pos, negsuc, T, leb, ltb, lit<, lit≤, leb→le, pow_mono, shl_lt, Float, nan, inf, fin, binary32, up, down, fits, is_nan, size, to_bits, lt, le, eq, le_or_lt}
use Rattle.std.proofs.Common.{mul-add, leb-true}
use native.Mathlib.Nat.{mul-sub, mul-div-mul_right, add-mul-mod_self_left, lt-div-mul-add}
use lib.Ieee.{Digits.{size-lt, size-le}, Fits.down_pos}
use Rattle.relay_math.specs.{Exact.{gap, P149, turns, turn_rest, back, quarter}, F32.{grains, fabsf}, Steps.{Tiny, Most, fixed, P48, reduce_of}}
use Rattle.relay_math.proofs.{Signs.le_is, Order.ltb_scaled, Grains.{shift, placed, grains_of, grains_exact, reads}}

-- ---- a float of size 2 ^ -12 to 2 ^ 13
pub record Parts (x : Float) : Type 0 where
  pub number : T (not (is_nan x))
  pub low : 115 ≤ to_bits binary32 x / 8388608 % 256
  pub high : to_bits binary32 x / 8388608 % 256 ≤ 140
  pub is : grains x ≡ fixed x * 2 ^ 101

-- A / D = n / L against 1 / c and c
pub at_least : (A D n L c : ℕ) → 0 < D → A * L ≡ n * D → D ≤ A * c → L ≤ n * c
at_least A D n L c Z e h =
    let i : D * L ≤ A * c * L = mul-le-mul_right L h in
    let j : A * L * c ≡ n * D * c = ap (λ (x : ℕ). x * c) e in
    le_of_mul-le-mul_right {k = D} (omega (arith, i, j)) Z

at_most : (A D n L c : ℕ) → 0 < D → A * L ≡ n * D → A ≤ c * D → n ≤ c * L
at_most A D n L c Z e h = let i : A * L ≤ c * D * L = mul-le-mul_right L h in le_of_mul-le-mul_right {k = D} (omega (arith, i, e)) Z

-- the sign is one digit above the fields
fields : (s : Bool) (m : ℕ) (e : ℤ) (b : ℕ) → to_bits binary32 (fin false m e) ≡ b → b < 2147483648
    → (to_bits binary32 (fin s m e) % 8388608 ≡ b % 8388608) × (to_bits binary32 (fin s m e) / 8388608 % 256 ≡ b / 8388608)
unfolding to_bits
fields true m e b h k = omega arith
fields false m e b h k = omega arith

pub parts : (s : Bool) (m : ℕ) (e : ℤ) → T (fits binary32 (fin s m e)) → down e ≤ m * up e * 4096 → m * up e ≤ 8192 * down e → Parts (fin s m e)
unfolding fixed is_nan grains fits
parts s m e f h k =
    let n = grains (fin false m e) in let d = reads m e f in let E = grains_exact false m e f in
    let l : 2 ^ 137 ≤ n = le_of_mul-le-mul_right {k = 4096} (at_least (m * up e) (down e) n (2 ^ 149) 4096 (down_pos e) E h) (lit< tt) in
    let v : 137 < size n = lt_of_not-le (λ (g : size n ≤ 137). not-le_of_lt (lt_of_lt_of_le (size-lt n) (pow_mono g)) l) in
    let u : size n ≤ 163 = size-le n 163 (lt_of_le_of_lt (at_most (m * up e) (down e) n (2 ^ 149) 8192 (down_pos e) E k) (lit< tt)) in
    let x : (114 ≤ d.k) × (d.k ≤ 139) = omega (arith, d.counted, u, v) in
    let q : 8388608 ≤ d.q = d.full (omega (arith, x)) in
    let b = fields s m e (d.k * 8388608 + d.q) d.bits (omega (arith, d.few, x)) in
    let t : to_bits binary32 (fin s m e) % 8388608 + 8388608 ≡ d.q = omega (arith, b.0, d.few, q) in
    let o : to_bits binary32 (fin s m e) / 8388608 % 256 ≡ d.k + 1 = omega (arith, b.1, d.few, q) in
    let w : to_bits binary32 (fin s m e) / 8388608 % 256 - 102 ≡ d.k - 101 = omega (arith, o, x) in
    record { number = tt; low = omega (arith, o, x); high = omega (arith, o, x); is = rw (t, w) (d.is ∙ shift d.q d.k 101 (omega (arith, x))) }

pub known : (x : Float) → T (fits binary32 x) → T (le Tiny (fabsf x)) → T (le (fabsf x) Most) → Parts x
unfolding fabsf le lt eq
known (fin s m e) f h k =
    parts s m e f (omega (arith, leb→le (1 * 1 * down e) (m * up e * 4096) (subst T (le_is 1 (negsuc 11) m e) h)))
    (omega (arith, leb→le (m * up e * 1) (1 * 8192 * down e) (subst T (le_is m e 1 (pos 13)) k)))
known nan f h k = elim h [ ]
known (inf _) f h k = elim k [ ]

-- ---- what u grains turn to: n modulo 4, the rest, and whether it is negative
pub record Turn (u n R : ℕ) (b : Bool) : Type 0 where
  pub quarter_is : (s : Bool) → quarter s u ≡ cond s (3 * n % 4) n
  pub rest_is : turn_rest u ≡ R
  pub back_is : back u ≡ b

of_turns : (u n R : ℕ) (b : Bool) → turns u ≡ n → gap u (n * P149) ≡ R → ltb u (n * P149) ≡ b → Turn u (n % 4) R b
unfolding quarter turn_rest back
of_turns u n R b e r c = record { quarter_is = λ s. rw e (go s); rest_is = rw e r; back_is = rw e c }
  where
    go : (s : Bool) → cond s (3 * n % 4) (n % 4) ≡ cond s (3 * (n % 4) % 4) (n % 4)
    go true = let i : 3 * n ≡ 3 * (n % 4) + 4 * (3 * (n / 4)) = omega arith in ap (λ (x : ℕ). x % 4) i ∙ add-mul-mod_self_left (3 * (n % 4)) 4 (3 * (n / 4))
    go false = refl

-- document 01: "If |x| is at most P/2, n = 0 and r = x"
at_zero : (u p : ℕ) → (gap u (0 * p) ≡ u) × (ltb u (0 * p) ≡ false)
at_zero u p = (omega arith, le-ltb u (0 * p) (omega arith))

pub no_turn : (u : ℕ) → 2 * u ≤ P149 → Turn u 0 u false
unfolding turns
no_turn u h = of_turns u 0 u false (rw (le-leb (2 * u) P149 h)) (at_zero u P149).0 (at_zero u P149).1

-- "else n is the whole number nearest x/P": the rest is at most P / 2 for every u
nearest : (u p : ℕ) → 0 < p → 2 * gap u (cond (leb (2 * u) p) 0 ((2 * u + p) / (2 * p)) * p) ≤ p
nearest u p h = go (leb (2 * u) p) refl
  where
    go : (t : Bool) → leb (2 * u) p ≡ t → 2 * gap u (cond t 0 ((2 * u + p) / (2 * p)) * p) ≤ p
    go true e = omega (arith, leb-true (2 * u) p e)
    go false e =
        let n = (2 * u + p) / (2 * p) in
        let a : n * (2 * p) ≤ 2 * u + p = div-mul-le_self (2 * u + p) (2 * p) in
        let b : 2 * u + p < n * (2 * p) + 2 * p = lt-div-mul-add (mul-pos (lit< tt) h) in
        omega (arith, a, b)

rest_most : (u : ℕ) → 2 * turn_rest u ≤ P149
unfolding turn_rest turns
rest_most u = nearest u P149 (lit< tt)

-- ---- in the code's units of g = 2 ^ 101 grains
abbrev count : ℕ → ℕ
count X = (X + P48 / 2) / P48

turns_is : (X g : ℕ) → 0 < g → cond (leb (2 * (X * g)) (P48 * g)) 0 ((2 * (X * g) + P48 * g) / (2 * (P48 * g))) ≡ count X
turns_is X g G = go (leb (2 * (X * g)) (P48 * g)) refl
  where
    go : (b : Bool) → leb (2 * (X * g)) (P48 * g) ≡ b → cond b 0 ((2 * (X * g) + P48 * g) / (2 * (P48 * g))) ≡ count X
    go true h = let k : 2 * X ≤ P48 = le_of_mul-le-mul_right {k = g} (omega (arith, leb-true (2 * (X * g)) (P48 * g) h)) G in omega arith
    go false h =
        let a : 2 * (X * g) + P48 * g ≡ (2 * X + P48) * g = omega arith in
        let b : 2 * (P48 * g) ≡ 2 * P48 * g = omega arith in
        rw (a, b) (mul-div-mul_right (2 * X + P48) (2 * P48) G ∙ omega arith)

gap_mul : (a b g : ℕ) → gap (a * g) (b * g) ≡ gap a b * g
gap_mul a b g = rw (mul_comm a g, mul_comm b g, ← mul-sub g a b, ← mul-sub g b a, mul_comm (gap a b) g) (sym (mul-add g (a - b) (b - a)))

module _ (X : ℕ) where
  pub few : (reduce_of X).n < 4
  unfolding reduce_of
  few = mod-lt (count X) (lit< tt)

  pub small : (reduce_of X).r ≤ 0xC90FDAA22168
  unfolding reduce_of
  small = omega arith

  turns_units : turns (X * 2 ^ 101) ≡ count X
  unfolding turns
  turns_units = turns_is X (2 ^ 101) (lit< tt)

  pub turn : Turn (X * 2 ^ 101) (reduce_of X).n ((reduce_of X).r * 2 ^ 101) (reduce_of X).back
  unfolding reduce_of
  turn =
      (of_turns (X * 2 ^ 101) (count X) (gap X (count X * P48) * 2 ^ 101) (ltb X (count X * P48)) turns_units
      (ap (λ (n : ℕ). gap (X * 2 ^ 101) n) (sym (mul_assoc (count X) P48 (2 ^ 101))) ∙ gap_mul X (count X * P48) (2 ^ 101))
      (ap (λ (n : ℕ). ltb (X * 2 ^ 101) n) (sym (mul_assoc (count X) P48 (2 ^ 101))) ∙ ltb_scaled X (count X * P48) (2 ^ 101) (lit< tt)))

-- ---- "no tie occurs"
-- P48 is odd, so no whole number of its units is half of it
not_half : (R g : ℕ) → 0 < g → 2 * (R * g) ≤ P48 * g → 2 * (R * g) < P48 * g
not_half R g G h =
    let k : 2 * R ≤ P48 = le_of_mul-le-mul_right {k = g} (omega arith) G in
    let l : 2 * R * g < P48 * g = mul-lt-mul_of_pos_right (omega arith) G in
    omega arith

twice_below : (u a b : ℕ) → u < a → 2 * a ≤ b → 2 * u < b
twice_below u a b h k = omega arith

-- An f32 is m * 2 ^ j grains, with an m of 24 digits: a whole number of units, or far below P.
digits_rest : (m j : ℕ) → m < 2 ^ 24 → 2 * turn_rest (m * 2 ^ j) < P149
digits_rest m j h =
    elim (le_or_lt 101 j) [
      | inl l ↦
          let X = m * 2 ^ (j - 101) in
          let e : turn_rest (X * 2 ^ 101) ≡ (reduce_of X).r * 2 ^ 101 = (turn X).rest_is in
          rw (shift m j 101 l, e) (not_half (reduce_of X).r (2 ^ 101) (lit< tt) (rw e at (rest_most (X * 2 ^ 101))))
      | inr g ↦
          let b : 2 * (m * 2 ^ j) < P149 = twice_below (m * 2 ^ j) (2 ^ 125) P149 (lt_of_lt_of_le (shl_lt 24 j h) (pow_mono {j = 125} (omega arith))) (lit≤ tt) in
          rw (no_turn (m * 2 ^ j) (le_of_lt b)).rest_is b
    ]

pub turn_is_nearest : (x : Float) → T (fits binary32 x) → 2 * turn_rest (grains x) < P149
turn_is_nearest nan F = unfold grains in digits_rest 0 0 (lit< tt)
turn_is_nearest (inf s) F = unfold grains in digits_rest 0 0 (lit< tt)
turn_is_nearest (fin s m e) F = let p = placed s m e F in rw (grains_of (fin s m e) s (m * 2 ^ p.0) (refl, p.2)) (digits_rest m p.0 p.1)
