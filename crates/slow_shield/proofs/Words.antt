-- The order of floats with no sign is the order of their words, as whole numbers. Assumes nothing.
use Rattle.laws.proofs.Prelude.{ℕ, zero, suc, ◌+◌, ◌*◌, ◌/◌, ◌%◌, ◌^◌, ◌<◌, ◌≤◌, ◌≡◌, sym, ap, subst, ◌∙◌, inl, inr, Bool, true, false, cond, le_trans, le_of_eq, eq-or-lt_of_le, mul_assoc}
use Rattle.laws.proofs.Prelude.{mul-le-mul_left, mul-le-mul_right, mod-eq_of_lt, mod-lt, lt_of_le_of_lt, arith, ne_eqb, T, leb, eqb, lit<, pow_pos, pow_mono, Float, nan, inf, binary32, odd, le, fits}
use Rattle.laws.proofs.Prelude.{of_bits}
use Prim.Native.Nat.{zero-le}
use native.Mathlib.Nat.{pow-succ'}
use lib.{Arith.lt→nleb, Ieee.{low, of_fields, Bits.{is_true, is_false, of_bits-to_bits}, Exact.{HasValue, odd_sign}, Order.le_of_values}}
use Rattle.words.specs.Words.{float_of, bits}
use Rattle.slow_shield.specs.Back.{in_band}

-- a word with no sign, with the exponent's field e and the digits t, is lead e t * 2 ^ places e of the smallest values
abbrev lead : ℕ → ℕ → ℕ
lead zero t = t
lead (suc x) t = 8388608 + t

abbrev places : ℕ → ℕ
places zero = 0
places (suc x) = x

fields_value : (e t : ℕ) → e < 255 → HasValue (of_fields binary32 false e t) false (lead e t * 2 ^ places e) (2 ^ low binary32)
unfolding of_fields
fields_value zero t h = odd_sign 24 false t 0 (low binary32)
fields_value (suc x) t h =
    subst (λ (b : Bool). HasValue (cond b (cond (eqb t 0) (inf false) nan) (odd 24 false (8388608 + t) x (low binary32))) false ((8388608 + t) * 2 ^ x) (2 ^ low binary32))
    (sym (ne_eqb (suc x) 255 (λ e. omega arith)))
    (odd_sign 24 false (8388608 + t) x (low binary32))

word_value : (n : ℕ) → n < 2139095040 → HasValue (float_of n) false (lead (n / 8388608) (n % 8388608) * 2 ^ places (n / 8388608)) (2 ^ low binary32)
unfolding of_bits
word_value n h =
    let s : leb 2147483648 n ≡ false = is_false (leb 2147483648 n) (lt→nleb 2147483648 n (omega arith)) in
    let m : n % 2147483648 ≡ n = mod-eq_of_lt (omega arith) in
    subst (λ (b : Bool). HasValue (of_fields binary32 b (n % 2147483648 / 8388608) (n % 8388608)) false (lead (n / 8388608) (n % 8388608) * 2 ^ places (n / 8388608)) (2 ^ low binary32)) (sym s)
    (subst (λ (x : ℕ). HasValue (of_fields binary32 false (x / 8388608) (n % 8388608)) false (lead (n / 8388608) (n % 8388608) * 2 ^ places (n / 8388608)) (2 ^ low binary32)) (sym m)
    (fields_value (n / 8388608) (n % 8388608) (omega arith)))

in_order : (e t d u : ℕ) → t < 8388608 → u < 8388608 → e * 8388608 + t ≤ d * 8388608 + u → lead e t * 2 ^ places e ≤ lead d u * 2 ^ places d
in_order zero t zero u T U h = mul-le-mul_right (2 ^ 0) (omega arith)
in_order zero t (suc y) u T U h = let l : t ≤ 8388608 + u = omega arith in le_trans (mul-le-mul_right (2 ^ 0) l) (mul-le-mul_left (8388608 + u) (pow_mono zero-le))
in_order (suc x) t zero u T U h = absurd (omega arith)
in_order (suc x) t (suc y) u T U h =
    let l : x ≤ y = omega arith in
    elim (eq-or-lt_of_le l) [
      | inl p ↦ let k : 8388608 + t ≤ 8388608 + u = omega arith in subst (λ (z : ℕ). (8388608 + t) * 2 ^ x ≤ (8388608 + u) * 2 ^ z) p (mul-le-mul_right (2 ^ x) k)
      | inr g ↦
          let a : 8388608 + t ≤ 8388608 * 2 = omega arith in let b : 8388608 ≤ 8388608 + u = omega arith in
          le_trans (mul-le-mul_right (2 ^ x) a)
          (le_trans (le_of_eq (mul_assoc 8388608 2 (2 ^ x) ∙ ap (λ (z : ℕ). 8388608 * z) (sym (pow-succ' 2 x))))
          (le_trans (mul-le-mul_left 8388608 (pow_mono g)) (mul-le-mul_right (2 ^ y) b)))
    ]

pub word_le : (n m : ℕ) → n ≤ m → m < 2139095040 → T (le (float_of n) (float_of m))
word_le n m h k =
    le_of_values (float_of n) (float_of m)
    (lead (n / 8388608) (n % 8388608) * 2 ^ places (n / 8388608)) (2 ^ low binary32) (lead (m / 8388608) (m % 8388608) * 2 ^ places (m / 8388608)) (2 ^ low binary32)
    (pow_pos (low binary32)) (pow_pos (low binary32))
    (word_value n (lt_of_le_of_lt h k)) (word_value m k)
    (mul-le-mul_right (2 ^ low binary32) (in_order (n / 8388608) (n % 8388608) (m / 8388608) (m % 8388608) (mod-lt n (lit< tt)) (mod-lt m (lit< tt)) (omega arith)))

-- so a word between the thresholds' words is in the band
pub in_band_word : (enter exit : Float) → T (fits binary32 enter) → T (fits binary32 exit) → (w : ℕ) → bits enter ≤ w → w ≤ bits exit → bits exit < 2139095040
    → in_band enter exit (float_of w) ≡ true
in_band_word enter exit p q w l u h =
    let a : T (le enter (float_of w)) = subst (λ (x : Float). T (le x (float_of w))) (of_bits-to_bits binary32 enter p) (word_le (bits enter) w l (lt_of_le_of_lt u h)) in
    let b : T (le (float_of w) exit) = subst (λ (x : Float). T (le (float_of w) x)) (of_bits-to_bits binary32 exit q) (word_le w (bits exit) u h) in
    rw (is_true (le enter (float_of w)) a, is_true (le (float_of w) exit) b)
