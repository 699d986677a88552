-- A finite f32 is a whole number of grains: q * 2 ^ k of them, with a q below 2 ^ 24, and its bit pattern is then k * 2 ^ 23 + q. Assumes nothing.
use Rattle.laws.proofs.Prelude.{inf, nan, true, ◌≡◌, refl, sym, ap, ◌∙◌, ℕ, zero, suc, ◌+◌, ◌-◌, ◌*◌, ◌/◌, ◌%◌, ◌^◌, ◌≤◌, ◌<◌, le_trans, le_of_eq, lt_of_lt_of_le, lt_of_le_of_lt, lt_of_not-le, not-le_of_lt, zero-add}
use Rattle.laws.proofs.Prelude.{zero-mul, one-mul, mul-one, mul_assoc, mul_right_comm, mul-pos, mul-le-mul_right, mul-lt-mul_of_pos_right, le_of_mul-le-mul_right, arith, Bool, false, ◌&&◌, ℤ, pos}
use Rattle.laws.proofs.Prelude.{negsuc, T, leb, ltb, eqb, lit<, leb→le, pow-add, pow_pos, pow_mono, shl_lt, Float, fin, binary32, up, down, fits, size, of_bits, to_bits}
use Rattle.std.proofs.Common.{lt_of_mul-lt-mul_right, mul-div_cancel}
use lib.{Dec.ltb→lt, Pow.{pow-lt, shl-shr}, Ieee.{Fits.{and_l, and_r, down_pos, kept-lt}, Digits.{back, size-lt, size-le, size_reaches}, Bits.of_bits-to_bits, Exact.HasValue}}
use Rattle.relay_math.specs.{F32.grains, Sqrt.natural}
use Rattle.relay_math.proofs.Signs.{of_value}

-- a value of G / 2 ^ 149 is G grains
pub grains_of : (x : Float) (s : Bool) (G : ℕ) → HasValue x s G (2 ^ 149) → grains x ≡ G
unfolding grains
grains_of (fin t m e) s G v = ap (λ (a : ℕ). a / down e) v.1 ∙ mul-div_cancel G (down_pos e)
grains_of nan s G v = elim v [ ]
grains_of (inf _) s G v = elim v [ ]

pub shift : (m j k : ℕ) → k ≤ j → m * 2 ^ j ≡ m * 2 ^ (j - k) * 2 ^ k
shift m j k h = ap (λ (x : ℕ). m * x) (ap (λ (x : ℕ). 2 ^ x) (sym (back j k h)) ∙ pow-add 2 (j - k) k) ∙ sym (mul_assoc m (2 ^ (j - k)) (2 ^ k))

-- ---- m * 2 ^ e in grains

place : (e : ℤ) → down e ≤ 2 ^ 149 → (j : ℕ) × (up e * 2 ^ 149 ≡ 2 ^ j * down e)
place (pos a) h = (a + 149, sym (mul-one (2 ^ (a + 149)) ∙ pow-add 2 a 149))
place (negsuc a) h =
    let l : suc a < 150 = lt_of_not-le (λ (g : 150 ≤ suc a). not-le_of_lt (pow-lt {i = 149} g) h) in
    (149 - suc a, one-mul (2 ^ 149) ∙ ap (λ (x : ℕ). 2 ^ x) (sym (back 149 (suc a) (omega arith))) ∙ pow-add 2 (149 - suc a) (suc a))

abbrev pub Placed : ℕ → ℤ → Type 0
Placed m e = (j : ℕ) × (m < 2 ^ 24) × (m * up e * 2 ^ 149 ≡ m * 2 ^ j * down e) × (m * up e < 2 ^ 128 * down e)

pub placed : (s : Bool) (m : ℕ) (e : ℤ) → T (fits binary32 (fin s m e)) → Placed m e
unfolding fits
placed s zero e t = (0, lit< tt, simp zero-mul, rw (zero-mul (up e)) (mul-pos (pow_pos 128) (down_pos e)))
placed s (suc m) e t =
    let a : Bool = eqb (suc m % 2) 1 in let b : Bool = ltb (suc m) (2 ^ 24) in let c : Bool = leb (down e) (2 ^ 149) in
    let d : Bool = ltb (suc m * up e) (2 ^ 128 * down e) in let u : T (a && b && c) = and_l (a && b && c) d t in
    let l = place e (leb→le (down e) (2 ^ 149) (and_r (a && b) c u)) in
    let is = mul_assoc (suc m) (up e) (2 ^ 149) ∙ ap (λ (x : ℕ). suc m * x) l.1 ∙ sym (mul_assoc (suc m) (2 ^ l.0) (down e)) in
    (l.0, ltb→lt (suc m) (2 ^ 24) (and_r a b (and_l (a && b) c u)), is, ltb→lt (suc m * up e) (2 ^ 128 * down e) (and_r (a && b && c) d t))

pub grains_exact : (s : Bool) (m : ℕ) (e : ℤ) → T (fits binary32 (fin s m e)) → m * up e * 2 ^ 149 ≡ grains (fin s m e) * down e
grains_exact s m e f = let p = placed s m e f in p.2 ∙ ap (λ (x : ℕ). x * down e) (sym (grains_of (fin s m e) s (m * 2 ^ p.0) (refl, p.2)))

pub grains_under : (s : Bool) (m : ℕ) (e : ℤ) → T (fits binary32 (fin s m e)) → grains (fin s m e) < 2 ^ 277
grains_under s m e f =
    lt_of_mul-lt-mul_right (down e)
    (lt_of_le_of_lt (le_of_eq (sym (grains_exact s m e f)))
    (lt_of_lt_of_le (mul-lt-mul_of_pos_right (placed s m e f).3 (pow_pos 149)) (le_of_eq (mul_right_comm (2 ^ 128) (down e) (2 ^ 149)))))

-- ---- the pattern
pub size_of : (q k : ℕ) → 2 ^ 23 ≤ q → q < 2 ^ 24 → size (q * 2 ^ k) ≡ 24 + k
size_of q k l h =
    let a : size (q * 2 ^ k) ≤ 24 + k = size-le (q * 2 ^ k) (24 + k) (shl_lt 24 k h) in
    let b : 23 + k < size (q * 2 ^ k) =
    lt_of_not-le (λ (g : size (q * 2 ^ k) ≤ 23 + k). not-le_of_lt (lt_of_lt_of_le (size-lt (q * 2 ^ k)) (pow_mono g)) (rw pow-add (mul-le-mul_right (2 ^ k) l))) in
    omega arith

pattern_is : (m : ℕ) (e : ℤ) (n k : ℕ) → grains (fin false m e) ≡ n → size n - 24 ≡ k → to_bits binary32 (fin false m e) ≡ k * 2 ^ 23 + n / 2 ^ k
unfolding to_bits grains
pattern_is m e n k g h = rw (g, h, zero-add)

-- written: q of 24 digits
pub writes : (x : Float) (q k : ℕ) → HasValue x false (q * 2 ^ k) (2 ^ 149) → 2 ^ 23 ≤ q → q < 2 ^ 24 → to_bits binary32 x ≡ k * 2 ^ 23 + q
writes x q k v l h =
    of_value (λ (x : Float). to_bits binary32 x ≡ k * 2 ^ 23 + q) false (q * 2 ^ k) (2 ^ 149)
    (λ m e v.
    let c : size (q * 2 ^ k) - 24 ≡ k = omega (arith, size_of q k l h) in
    pattern_is m e (q * 2 ^ k) k (grains_of (fin false m e) false (q * 2 ^ k) v) c ∙ ap (λ (x : ℕ). k * 2 ^ 23 + x) (shl-shr q k))
    x v

-- read: q has 24 digits, or k is 0
pub record Digits (n b : ℕ) : Type 0 where
  pub k : ℕ
  pub q : ℕ
  pub is : n ≡ q * 2 ^ k
  pub few : q < 2 ^ 24
  pub full : 0 < k → 2 ^ 23 ≤ q
  pub under : k < 254
  pub bits : b ≡ k * 2 ^ 23 + q
  pub counted : k ≡ size n - 24

pub reads : (m : ℕ) (e : ℤ) → T (fits binary32 (fin false m e)) → Digits (grains (fin false m e)) (to_bits binary32 (fin false m e))
reads m e f =
    let p = placed false m e f in let j = p.0 in let n = grains (fin false m e) in
    let g : n ≡ m * 2 ^ j = grains_of (fin false m e) false (m * 2 ^ j) (refl, p.2) in let k = size n - 24 in
    let a : size n ≤ 24 + j = size-le n (24 + j) (lt_of_le_of_lt (le_of_eq g) (shl_lt 24 j p.1)) in
    let s : k ≤ j = omega arith in let c = m * 2 ^ (j - k) in let w : n ≡ c * 2 ^ k = g ∙ shift m j k s in
    let d : n / 2 ^ k ≡ c = ap (λ (x : ℕ). x / 2 ^ k) w ∙ shl-shr c k in
    let top : size n ≤ 277 = size-le n 277 (grains_under false m e f) in
    record {
      k = k;
      q = n / 2 ^ k;
      is = rw d w;
      few = kept-lt 24 n;
      full = λ z. le_of_mul-le-mul_right (le_trans (le_of_eq (sym (pow-add 2 23 k))) (le_trans (size_reaches n (23 + k) (omega arith)) (le_of_eq (rw d w)))) (pow_pos k);
      under = omega arith;
      bits = pattern_is m e n k refl refl;
      counted = refl;
    }

-- ---- of as many grains there is one f32 that is not below zero: its bits are made of them
pub same_grains : (x y : Float) → T (natural x) → T (natural y) → T (fits binary32 x) → T (fits binary32 y) → grains x ≡ grains y → x ≡ y
same_grains x y p q f g h = sym (of_bits-to_bits binary32 x f) ∙ ap (of_bits binary32) (bits x y p q h) ∙ of_bits-to_bits binary32 y g
  where
    bits : (x y : Float) → T (natural x) → T (natural y) → grains x ≡ grains y → to_bits binary32 x ≡ to_bits binary32 y
    bits (fin false m d) (fin false n c) p q e = unfold to_bits grains in rw e
    bits nan _ p q e = elim p [ ]
    bits (inf _) _ p q e = elim p [ ]
    bits (fin false m d) nan p q e = elim q [ ]
    bits (fin false m d) (inf _) p q e = elim q [ ]
    bits (fin false m d) (fin true n c) p q e = elim q [ ]
    bits (fin true m d) _ p q e = elim p [ ]
