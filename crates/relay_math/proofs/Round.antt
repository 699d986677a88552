-- Floats from whole numbers: two halves, each exact, whose sum rounds once; and how far rounding goes. Assumes nothing.
use Rattle.laws.proofs.Prelude.{◌≡◌, refl, sym, ap, ◌∙◌, inl, inr, Bool, true, false, cond, Bool·beq, ℕ, zero, suc, ◌+◌, ◌-◌, ◌*◌, ◌/◌, ◌%◌, ◌^◌, ◌≤◌, ◌<◌, compare, le_of_lt, lt_of_le_of_lt}
use Rattle.laws.proofs.Prelude.{lt_of_lt_of_le, eq-or-lt_of_le, mul-le-mul_left, mul-le-mul_right, mul-pos, mul_comm, mul_assoc, mul-lt-mul_of_pos_right, div-mul-le_self, le_of_mul-le-mul_right}
use Rattle.laws.proofs.Prelude.{arith, pos, negsuc, ltb, lit<, lit≤, pow_pos, pow_mono, shl_lt, Float, inf, fin, binary32, up, down, unlike, neg, round, units, odd, nearest, mul, add, sum, size}
use Rattle.std.proofs.Common.{div-lt_iff_lt-mul}
use native.Mathlib.Nat.{lt-div-mul-add}
use lib.Ieee.{of_int, Exact.{HasValue, round_exact}, Back.round_whole, Scale.{round_same, round_val}, Fits.{down_pos, nearest-le}, Nearest.{closest, nearest-ge}, Digits.size-le, Order.drop}
use Rattle.relay_math.specs.Steps.{to_float, signed}
use Rattle.relay_math.proofs.Signs.{of_value}

-- ---- the sign has no part in rounding
units_neg : (q k : ℕ) → units binary32 true q k ≡ neg (units binary32 false q k)
unfolding units odd neg
units_neg q k = go q (ltb (q * 2 ^ k) (2 ^ 277))
  where
    go : (q : ℕ) (b : Bool) → cond b (odd 25 true q k 149) (inf true) ≡ neg (cond b (odd 25 false q k 149) (inf false))
    go zero true = refl
    go (suc q) true = refl
    go q false = refl

pub round_signed : (s : Bool) (a c : ℕ) → round binary32 s a c ≡ signed s (round binary32 false a c)
unfolding round
round_signed true a c =
    let n = a * 2 ^ 149 in let k = size (n / c) - 24 in let u = c * 2 ^ k in
    units_neg (nearest (n / u) (compare (n % u * 2) u)) k
round_signed false a c = refl

alone : (s : Bool) → (unlike false s ≡ s) × (Bool·beq s s ≡ true)
alone true = (refl, refl)
alone false = (refl, refl)

-- ---- n / 1 times ±2 ^ -(k + 1), and a sum under one sign
mul_down : (s : Bool) (k n : ℕ) (x : Float) → HasValue x false n 1 → mul binary32 x (fin s 1 (negsuc k)) ≡ round binary32 s n (2 ^ suc k)
unfolding mul
mul_down s k n =
    of_value (λ (x : Float). mul binary32 x (fin s 1 (negsuc k)) ≡ round binary32 s n (2 ^ suc k)) false n 1
    (λ m e h. rw (alone s).0 (round_same binary32 s (m * up e * 1) (down e * 2 ^ suc k) n (2 ^ suc k)
    (mul-pos (down_pos e) (pow_pos (suc k))) (pow_pos (suc k)) (ap (λ (x : ℕ). x * 2 ^ suc k) h.1 ∙ mul_assoc n (down e) (2 ^ suc k))))

add_cross : (M d N D a c b e : ℕ) → M * c ≡ a * d → N * e ≡ b * D → (M * D + N * d) * (c * e) ≡ (a * e + b * c) * (d * D)
add_cross M d N D a c b e p q =
    let i : M * c * (D * e) ≡ a * d * (D * e) = ap (λ (x : ℕ). x * (D * e)) p in
    let j : N * e * (d * c) ≡ b * D * (d * c) = ap (λ (x : ℕ). x * (d * c)) q in
    omega arith

add_values : (s : Bool) (x y : Float) (a c b e : ℕ) → 0 < c → 0 < e → HasValue x s a c → HasValue y s b e → add binary32 x y ≡ round binary32 s (a * e + b * c) (c * e)
unfolding add sum
add_values s x y a c b e C E h k =
    of_value (λ (x : Float). add binary32 x y ≡ round binary32 s (a * e + b * c) (c * e)) s a c
    (λ m i h. of_value (λ (y : Float). add binary32 (fin s m i) y ≡ round binary32 s (a * e + b * c) (c * e)) s b e
    (λ n j k. rw (alone s).1 (round_same binary32 s (m * up i * down j + n * up j * down i) (down i * down j) (a * e + b * c) (c * e) (mul-pos (down_pos i) (down_pos j)) (mul-pos C E)
    (add_cross (m * up i) (down i) (n * up j) (down j) a c b e h.1 k.1))) y k)
    x h

-- ---- ±v / 2 ^ 48 by two halves of up to 24 digits
down_value : (s : Bool) (n k j : ℕ) → 2 ^ j * 2 ^ suc k ≡ 2 ^ 149 → 2 ^ (24 + j) ≤ 2 ^ 277 → n < 16777216 → HasValue (round binary32 s n (2 ^ suc k)) s n (2 ^ suc k)
down_value s n k j e l h =
    round_exact binary32 s n (2 ^ suc k) n j (pow_pos (suc k)) h (lt_of_lt_of_le (shl_lt 24 j h) l) (ap (λ (x : ℕ). n * x) (sym e) ∙ sym (mul_assoc n (2 ^ j) (2 ^ suc k)))

high_value : (s : Bool) (n : ℕ) → n ≤ 16777216 → HasValue (round binary32 s n (2 ^ 24)) s n (2 ^ 24)
high_value s n h = elim (eq-or-lt_of_le h) [
  | inl e ↦ rw e (round_exact binary32 s 16777216 (2 ^ 24) 1 149 (lit< tt) (lit< tt) (lit< tt) refl)
  | inr l ↦ down_value s n 23 125 refl (lit≤ tt) l
]

halves : (v : ℕ) → (v / 16777216 * 281474976710656 + v % 16777216 * 16777216) * 281474976710656 ≡ v * (16777216 * 281474976710656)
halves v = omega arith

pub to_float_lem : (s : Bool) (v : ℕ) → v ≤ 281474976710656
    → add binary32 (mul binary32 (of_int binary32 (pos (v / 16777216))) (fin s 1 (negsuc 23))) (mul binary32 (of_int binary32 (pos (v % 16777216))) (fin s 1 (negsuc 47))) ≡ signed s (to_float v)
unfolding to_float of_int
to_float_lem s v h =
    let a : v / 16777216 ≤ 16777216 = omega arith in let b : v % 16777216 < 16777216 = omega arith in
    rw (mul_down s 23 (v / 16777216) _ (round_whole binary32 false (v / 16777216) a), mul_down s 47 (v % 16777216) _ (round_whole binary32 false (v % 16777216) (le_of_lt b)))
    (add_values s _ _ (v / 16777216) (2 ^ 24) (v % 16777216) (2 ^ 48) (lit< tt) (lit< tt) (high_value s (v / 16777216) a) (down_value s (v % 16777216) 47 101 refl (lit≤ tt) b)
    ∙ round_same binary32 s (v / 16777216 * 2 ^ 48 + v % 16777216 * 2 ^ 24) (2 ^ 24 * 2 ^ 48) v 281474976710656 (lit< tt) (lit< tt) (halves v) ∙ round_signed s v 281474976710656)

-- ---- how far rounding goes: less than one unit in the last place, which is enough here
closest_near : (n d p M : ℕ) → 0 < d * p → p ≤ M → (closest n (d * p) * p * d ≤ n + M * d) × (n ≤ closest n (d * p) * p * d + M * d)
closest_near n d p M U h =
    let u = d * p in let q = n / u in let c = closest n u in
    let a : c * u ≤ suc q * u = mul-le-mul_right u (nearest-le q (compare (n % u * 2) u)) in
    let b : q * u ≤ c * u = mul-le-mul_right u (nearest-ge q (compare (n % u * 2) u)) in
    let g : q * u ≤ n = div-mul-le_self n u in let e : n < q * u + u = lt-div-mul-add U in
    let i : d * p ≤ d * M = mul-le-mul_left d h in
    (omega arith, omega arith)

pub one_rounds : round binary32 false 1 1 ≡ fin false 1 (pos 0)
unfolding round
one_rounds = refl

total : (x v d L M : ℕ) → v ≤ d → 0 < d → x * d ≤ v * L + M * d → x ≤ L + M
total x v d L M h D k = let i : v * L ≤ d * L = mul-le-mul_right L h in le_of_mul-le-mul_right {k = d} (omega arith) D

exact : (d L M : ℕ) → (L * d ≤ d * L + M * d) × (d * L ≤ L * d + M * d)
exact d L M = omega arith

-- v / d, at most 1, rounded, is G / 2 ^ 149, with G within 2 ^ 125
pub rounded : (v d : ℕ) → 0 < d → v ≤ d → (G : ℕ) × HasValue (round binary32 false v d) false G (2 ^ 149) × (G * d ≤ v * 2 ^ 149 + 2 ^ 125 * d) × (v * 2 ^ 149 ≤ G * d + 2 ^ 125 * d)
rounded v d D h = elim (eq-or-lt_of_le h) [
  | inl e ↦ let x = exact d (2 ^ 149) (2 ^ 125) in rw (e, round_same binary32 false d d 1 1 D (lit< tt) (mul_comm d 1), one_rounds) (2 ^ 149, (refl, refl), x.0, x.1)
  | inr l ↦
      let n = v * 2 ^ 149 in let k = drop 24 n d in
      let few : size (n / d) ≤ 149 = size-le (n / d) 149 ((div-lt_iff_lt-mul D).1 (rw (mul_comm (2 ^ 149) d) (mul-lt-mul_of_pos_right l (lit< tt)))) in
      let s = closest_near n d (2 ^ k) (2 ^ 125) (mul-pos D (pow_pos k)) (pow_mono {j = 125} (omega arith)) in
      (closest n (d * 2 ^ k) * 2 ^ k, round_val binary32 v d (lt_of_le_of_lt (total _ v d (2 ^ 149) (2 ^ 125) h D s.0) (lit< tt)), s.0, s.1)
]
