-- The definition `sqrtf` is the root: `IsRoot x (sqrtf x)` for every f32 x, and of nothing else; and its bit pattern is what the code puts together. Assumes nothing.
use Rattle.laws.proofs.Prelude.{◌≡◌, refl, sym, ap, ◌∙◌, subst, inl, inr, ℕ, zero, suc, ◌+◌, ◌-◌, ◌*◌, ◌/◌, ◌%◌, ◌^◌, ◌≤◌, ◌<◌, le_trans, le_of_eq, lt_of_lt_of_le, lt_of_not-le, not-le_of_lt}
use Rattle.laws.proofs.Prelude.{eq-or-lt_of_le, add_comm, mul-one, mul_assoc, mul-pos, mul-le-mul, mul-le-mul_right, le_of_lt, zero-lt-suc, arith, true, false, cond, ℤ, T, ltb, lt-ltb, pow-add}
use Rattle.laws.proofs.Prelude.{pow_pos, pow_mono, shl_lt, Float, nan, inf, fin, binary32, down, size, odd, fits, to_bits, of_bits, lt, eq, no, le_or_lt}
use Rattle.std.proofs.Common.{lt_trans, lt_irrefl, eq-zero-or-pos, mul-div_cancel}
use lib.{Dec.lt→ltb, Count.{count_leading_zeros, leading_top}, Ieee.{Bits.of_bits-to_bits, Fits.odd-fits, Exact.{HasValue, odd_sign}, Positive.{positive, first_pos}}}
use Rattle.relay_math.specs.{F32.grains, Steps.Zero, Sqrt.{natural, square, Nearest, IsRoot, nearest_root, root_grains, sqrtf}}
use Rattle.relay_math.proofs.{Signs.{of_value, zero_is, size_pos, is_above, not_zero}, Grains.{same_grains, shift, grains_of, grains_exact, size_of, writes, reads, Digits}}
use Rattle.relay_math.proofs.RootNear.{Closest, closest, closest_unique, digits, near}

-- ---- X grains as m * 2 ^ (e - 23), with an m of 24 digits
pub record Scaled (X m e : ℕ) : Type 0 where
  pub is : X * 2 ^ 23 ≡ m * 2 ^ e
  pub low : 2 ^ 23 ≤ m
  pub high : m < 2 ^ 24
  pub under : e < 300

-- The code has both in one number d = e * 2 ^ 23 + m.
abbrev pub M : ℕ → ℕ
M d = d % 2 ^ 23 + 2 ^ 23

abbrev pub E : ℕ → ℕ
E d = d / 2 ^ 23 - 1

pub joined : {X m e d : ℕ} → Scaled X m e → d ≡ e * 2 ^ 23 + m → (M d ≡ m) × (E d ≡ e) × (2 ^ 23 ≤ d) × (d < 301 * 2 ^ 23)
joined w i = (omega (arith, w.low, w.high), omega (arith, w.low, w.high), omega (arith, w.low), omega (arith, w.high, w.under))

-- a pattern b from 2 ^ 23 on has the digits' field and the exponent's
pub scaled_normal : {n b : ℕ} → Digits n b → 2 ^ 23 ≤ b → Scaled n (b % 2 ^ 23 + 2 ^ 23) (b / 2 ^ 23 + 22)
scaled_normal {n} {b} w h =
    let l : 2 ^ 23 ≤ w.q = elim (eq-zero-or-pos w.k) [ inl z ↦ omega (arith, w.bits, z) | inr p ↦ w.full p ] in
    let q : b % 2 ^ 23 + 2 ^ 23 ≡ w.q = omega (arith, w.bits, w.few) in
    let e : b / 2 ^ 23 + 22 ≡ w.k + 23 = omega (arith, w.bits, w.few) in
    rw (q, e)
    record {
      is = ap (λ (x : ℕ). x * 2 ^ 23) w.is ∙ mul_assoc w.q (2 ^ w.k) (2 ^ 23) ∙ ap (λ (x : ℕ). w.q * x) (sym (pow-add 2 w.k 23));
      low = l;
      high = w.few;
      under = omega (arith, w.under);
    }

-- one below 2 ^ 23 is the grains themselves, which are shifted up to 24 digits
pub small_is : {n b : ℕ} → Digits n b → b < 2 ^ 23 → n ≡ b
small_is {n} {b} w h = let z : w.k ≡ 0 = omega (arith, w.bits) in (rw (z, mul-one w.q) at w.is) ∙ omega (arith, w.bits, z)

module _ (b : ℕ) (p : 0 < b) (h : b < 2 ^ 23) where
  pub zeros : (8 < count_leading_zeros 32 b) × (count_leading_zeros 32 b < 32)
  zeros =
      let t = leading_top 32 b p (omega arith) in
      let s : t.0 < 23 = lt_of_not-le (λ (g : 23 ≤ t.0). not-le_of_lt h (le_trans (pow_mono g) t.2)) in
      omega arith

  pub scaled_small : Scaled b (b * 2 ^ (count_leading_zeros 32 b - 8)) (31 - count_leading_zeros 32 b)
  scaled_small =
      let t = leading_top 32 b p (omega arith) in let j = t.0 in
      let i : count_leading_zeros 32 b - 8 ≡ 23 - j = omega (arith, zeros) in
      let e : 31 - count_leading_zeros 32 b ≡ j = omega (arith, zeros) in let s : j + (23 - j) ≡ 23 = omega (arith, zeros) in
      let r : suc j + (23 - j) ≡ 24 = omega (arith, zeros) in
      rw (i, e)
      record {
        is = shift b 23 j (omega (arith, zeros));
        low = le_trans (le_of_eq (ap (λ (x : ℕ). 2 ^ x) (sym s) ∙ pow-add 2 j (23 - j))) (mul-le-mul_right (2 ^ (23 - j)) t.2);
        high = lt_of_lt_of_le (shl_lt (suc j) (23 - j) t.3) (le_of_eq (ap (λ (x : ℕ). 2 ^ x) r));
        under = omega (arith, zeros);
      }

-- ---- the root of X * 2 ^ 149 = n * 4 ^ k, with an n of 47 or 48 digits
abbrev pub half : ℕ → ℕ
half e = (e + 103) / 2

abbrev pub under : ℕ → ℕ → ℕ
under m e = m * 2 ^ (23 + (e + 103) % 2)

pub under_size : (m c : ℕ) → 2 ^ 23 ≤ m → m < 2 ^ 24 → c < 2 → (2 ^ 46 ≤ m * 2 ^ (23 + c)) × (m * 2 ^ (23 + c) ≤ 2 ^ 48 - 2 ^ 24)
under_size m zero l h s = omega arith
under_size m (suc zero) l h s = omega arith
under_size m (suc (suc c)) l h s = omega arith

-- m times 2 ^ 23 or 2 ^ 24, by whether e is odd
pub as_product : (d : ℕ) → 2 ^ 23 ≤ d → M d * (d / 2 ^ 23 % 2 * 2 ^ 23 + 2 ^ 23) ≡ under (M d) (E d)
as_product d l =
    let h : (E d + 103) % 2 ≡ d / 2 ^ 23 % 2 = omega arith in
    rw h (twice (d / 2 ^ 23 % 2) (omega arith))
  where
    twice : (p : ℕ) → p < 2 → M d * (p * 2 ^ 23 + 2 ^ 23) ≡ M d * 2 ^ (23 + p)
    twice zero s = refl
    twice (suc zero) s = refl
    twice (suc (suc p)) s = omega arith

module _ (X m e : ℕ) (w : Scaled X m e) where
  whole : X * 2 ^ 149 ≡ m * 2 ^ (e + 126)
  whole = sym (mul_assoc X (2 ^ 23) (2 ^ 126)) ∙ ap (λ (x : ℕ). x * 2 ^ 126) w.is ∙ mul_assoc m (2 ^ e) (2 ^ 126) ∙ ap (λ (x : ℕ). m * x) (sym (pow-add 2 e 126))

  from : X * 2 ^ 149 ≡ under m e * (2 ^ half e * 2 ^ half e)
  from =
      let s : e + 126 ≡ 23 + (e + 103) % 2 + (half e + half e) = omega arith in
      whole ∙ ap (λ (x : ℕ). m * 2 ^ x) s ∙ rw (pow-add, pow-add 2 (half e) (half e)) (sym (mul_assoc m (2 ^ (23 + (e + 103) % 2)) (2 ^ half e * 2 ^ half e)))

  bounds : (2 ^ 46 ≤ under m e) × (under m e ≤ 2 ^ 48 - 2 ^ 24)
  bounds = under_size m ((e + 103) % 2) w.low w.high (omega arith)

  pub near_root : Closest (under m e) (nearest_root (under m e))
  near_root = closest (under m e) (omega (arith, bounds)) (omega (arith, bounds))

  ends : (2 ^ 23 ≤ nearest_root (under m e)) × (nearest_root (under m e) < 2 ^ 24)
  ends = digits (under m e) (nearest_root (under m e)) bounds.0 bounds.1 near_root

  root_is : root_grains (X * 2 ^ 149) ≡ odd 25 false (nearest_root (under m e)) (half e) 149
  unfolding root_grains
  root_is =
      let s : size (X * 2 ^ 149) ≡ 24 + (e + 126) = ap size whole ∙ size_of m (e + 126) w.low w.high in
      let k : (size (X * 2 ^ 149) - 47) / 2 ≡ half e = rw s (omega arith) in
      rw k (ap (λ (x : ℕ). odd 25 false (nearest_root (x / (2 ^ half e * 2 ^ half e))) (half e) 149) from
      ∙ ap (λ (x : ℕ). odd 25 false (nearest_root x) (half e) 149) (mul-div_cancel (under m e) (mul-pos (pow_pos (half e)) (pow_pos (half e)))))

  value : HasValue (root_grains (X * 2 ^ 149)) false (nearest_root (under m e) * 2 ^ half e) (2 ^ 149)
  value = rw root_is (odd_sign 25 false (nearest_root (under m e)) (half e) 149)

  root_fits : T (fits binary32 (root_grains (X * 2 ^ 149)))
  root_fits =
      let k = half e in let q = nearest_root (under m e) in let f : q < 2 ^ 25 = omega (arith, ends) in
      rw root_is (odd-fits binary32 25 false q k f (omega (arith, ends)) (lt_of_lt_of_le (shl_lt 25 k f) (pow_mono {i = 25 + k} {j = 277} (omega (arith, w.under)))))

  pub root_read : of_bits binary32 (half e * 2 ^ 23 + nearest_root (under m e)) ≡ root_grains (X * 2 ^ 149)
  root_read = rw (← writes (root_grains (X * 2 ^ 149)) (nearest_root (under m e)) (half e) value ends.0 ends.1) (of_bits-to_bits binary32 (root_grains (X * 2 ^ 149)) root_fits)

  -- the pattern of any whole number that is nearest
  pub closest_read : (q : ℕ) → Closest (under m e) q → of_bits binary32 (half e * 2 ^ 23 + q) ≡ root_grains (X * 2 ^ 149)
  closest_read q c = rw (closest_unique (under m e) q (nearest_root (under m e)) c near_root) root_read

  pub root_near : (x : Float) → grains x ≡ X → Nearest x (root_grains (X * 2 ^ 149))
  root_near x g =
      near x (root_grains (X * 2 ^ 149)) (half e) (nearest_root (under m e)) (under m e) (rw g from) bounds.0 bounds.1 near_root
      (grains_of _ false (nearest_root (under m e) * 2 ^ half e) value) root_fits
      (of_value (λ (r : Float). T (natural r)) false (nearest_root (under m e) * 2 ^ half e) (2 ^ 149) (λ i j v. tt) (root_grains (X * 2 ^ 149)) value)

-- ---- Next to 1, where √(1 + d) is 1 + d / 2 to the last digit, the root's pattern is half way to 1's.
above_one : (h : ℕ) (m : ℕ) → h < 1024 → 2 ^ 23 + 2 * h ≤ m → m ≤ 2 ^ 23 + 2 * h + 1 → Closest (m * 2 ^ 23) (2 ^ 23 + h)
above_one h m l i j = let s : h * h ≤ 1024 * 1024 = mul-le-mul (le_of_lt l) (le_of_lt l) in (omega arith, omega arith)

below_one : (q k m : ℕ) → q + k ≡ 2 ^ 24 → 0 < k → k ≤ 1024 → 2 ^ 24 ≤ m + 2 * k → m + 2 * k ≤ 2 ^ 24 + 1 → Closest (m * 2 ^ 24) q
below_one q k m e p l i j =
    let s : k * k ≤ 1024 * 1024 = mul-le-mul l l in let t : 1 * k ≤ k * k = mul-le-mul_right k p in
    let w : q * q + 2 * ((q + k) * k) ≡ (q + k) * (q + k) + k * k = omega arith in
    let v : q * q + 2 * (2 ^ 24 * k) ≡ 2 ^ 24 * 2 ^ 24 + k * k = rw e at w in
    (omega arith, omega arith)

pub near_one : {n b : ℕ} → Digits n b → (b + 2048) / 4096 ≡ 0x3f800 → of_bits binary32 (b / 2 + 0x1fc0_0000) ≡ root_grains (n * 2 ^ 149)
near_one {n} {b} d h =
    let w = scaled_normal d (omega arith) in
    elim (le_or_lt 0x3f80_0000 b) [
      | inl g ↦
          let e : b / 2 ^ 23 + 22 ≡ 149 = omega arith in
          let q : b / 2 + 0x1fc0_0000 ≡ 126 * 2 ^ 23 + (2 ^ 23 + (b - 0x3f80_0000) / 2) = omega arith in
          rw q (closest_read n (b % 2 ^ 23 + 2 ^ 23) 149 (rw e at w) _ (above_one ((b - 0x3f80_0000) / 2) _ (omega arith) (omega arith) (omega arith)))
      | inr g ↦
          let e : b / 2 ^ 23 + 22 ≡ 148 = omega arith in let k = (0x3f80_0001 - b) / 2 in
          let q : b / 2 + 0x1fc0_0000 ≡ 125 * 2 ^ 23 + (2 ^ 24 - k) = omega arith in
          rw q (closest_read n (b % 2 ^ 23 + 2 ^ 23) 148 (rw e at w) _ (below_one (2 ^ 24 - k) k _ (omega arith) (omega arith) (omega arith) (omega arith) (omega arith)))
    ]

-- ---- every f32
pub bits_pos : (m : ℕ) (e : ℤ) → T (fits binary32 (fin false (suc m) e)) → 0 < to_bits binary32 (fin false (suc m) e)
bits_pos m e f =
    let d = reads (suc m) e f in
    let p : 0 < grains (fin false (suc m) e) = first_pos _ (down e) (rw (grains_exact false (suc m) e f) at (mul-pos (size_pos m e) (pow_pos 149))) in
    let q : 0 < d.q = first_pos d.q (2 ^ d.k) (rw d.is at p) in
    omega (arith, d.bits)

scaled : (m : ℕ) (e : ℤ) → T (fits binary32 (fin false (suc m) e)) → (M : ℕ) × (E : ℕ) × Scaled (grains (fin false (suc m) e)) M E
scaled m e f =
    let b = to_bits binary32 (fin false (suc m) e) in let d = reads (suc m) e f in
    elim (le_or_lt (2 ^ 23) b) [
      | inl h ↦ (b % 2 ^ 23 + 2 ^ 23, b / 2 ^ 23 + 22, scaled_normal d h)
      | inr h ↦ (b * 2 ^ (count_leading_zeros 32 b - 8), 31 - count_leading_zeros 32 b, rw (small_is d h) (scaled_small b (bits_pos m e f) h))
    ]

pub is_root : (x : Float) → T (fits binary32 x) → IsRoot x (sqrtf x)
unfolding sqrtf
is_root nan f = refl
is_root (inf true) f = refl
is_root (inf false) f = refl
is_root (fin s zero e) f = refl
is_root (fin true (suc m) e) f = refl
is_root (fin false (suc m) e) f = let t = scaled m e f in root_near (grains (fin false (suc m) e)) t.0 t.1 t.2 (fin false (suc m) e) refl

-- ---- and no other value is

-- of two nearest values the smaller would have √x below the middle of both and above it
apart : (x r t : Float) → Nearest x r → Nearest x t → grains r < grains t → ⊥
apart x r t a b h = lt_irrefl _ (lt_trans (a.above t b.holds b.number h) (rw (add_comm (grains t) (grains r)) at (b.below r a.holds a.number h)))

nearest_unique : (x r t : Float) → Nearest x r → Nearest x t → r ≡ t
nearest_unique x r t a b =
    let i : grains t < suc (grains r) = lt_of_not-le (apart x r t a b) in
    let j : grains r < suc (grains t) = lt_of_not-le (apart x t r b a) in
    same_grains r t a.number b.number a.holds b.holds (omega arith)

pub unique : (x r t : Float) → IsRoot x r → IsRoot x t → r ≡ t
unique nan r t a b = a ∙ sym b
unique (inf true) r t a b = a ∙ sym b
unique (inf false) r t a b = a ∙ sym b
unique (fin s zero e) r t a b = a ∙ sym b
unique (fin true (suc m) e) r t a b = a ∙ sym b
unique (fin false (suc m) e) r t a b = nearest_unique (fin false (suc m) e) r t a b

-- document 01: "ties to even". √x is never the middle of the nearest r and another f32 y, so the rule has nothing to decide.
pub ties_never_occur : (x r y : Float) → Nearest x r → T (fits binary32 y) → T (natural y) → (grains r ≡ grains y → ⊥) → square (grains r + grains y) ≡ 4 * (grains x * 2 ^ 149) → ⊥
ties_never_occur x r y a f p d e = elim (le_or_lt (grains r) (grains y)) [
  | inl h ↦ elim (eq-or-lt_of_le h) [ inl i ↦ d i | inr i ↦ lt_irrefl _ (rw e at (a.above y f p i)) ]
  | inr h ↦ lt_irrefl _ (rw e at (a.below y f p h))
]

-- ---- by the tests of the code
pub bits_under : (m : ℕ) (e : ℤ) → T (fits binary32 (fin false m e)) → to_bits binary32 (fin false m e) < 255 * 2 ^ 23
bits_under m e f = let d = reads m e f in omega (arith, d.bits, d.few, d.under)

inf_bits : to_bits binary32 (inf false) ≡ 255 * 2 ^ 23
unfolding to_bits
inf_bits = refl

abbrev pub by_tests : Float → Float
by_tests x = cond (lt Zero x) (cond (ltb (to_bits binary32 x) (255 * 2 ^ 23)) (sqrtf x) x) (cond (eq x Zero) x nan)

pub by_tests_lem : (x : Float) → T (fits binary32 x) → by_tests x ≡ sqrtf x
unfolding lt eq sqrtf
by_tests_lem nan f = refl
by_tests_lem (inf true) f = refl
by_tests_lem (inf false) f = rw inf_bits
by_tests_lem (fin true zero e) f = subst (λ (x : Float). by_tests x ≡ sqrtf x) (sym (zero_is true e f)) refl
by_tests_lem (fin false zero e) f = subst (λ (x : Float). by_tests x ≡ sqrtf x) (sym (zero_is false e f)) refl
by_tests_lem (fin true (suc m) e) f = rw (not_zero m e true)
by_tests_lem (fin false (suc m) e) f = rw (is_above m e false, lt-ltb _ _ (bits_under (suc m) e f))

-- `x > 0.0` and a pattern below the infinity's: x is positive, and the pattern not 0
pub above : (x : Float) → T (fits binary32 x) → lt Zero x ≡ true → to_bits binary32 x < 255 * 2 ^ 23 → T (positive x) × (0 < to_bits binary32 x)
unfolding lt
above nan f t h = no t
above (inf true) f t h = no t
above (inf false) f t h = absurd (lt_irrefl _ (rw inf_bits at h))
above (fin true m e) f t h = no t
above (fin false zero e) f t h = no (subst (λ (x : Float). lt Zero x ≡ true) (zero_is false e f) t)
above (fin false (suc m) e) f t h = (lt→ltb 0 (suc m) (zero-lt-suc m), bits_pos m e f)

-- ---- roots that the definition computes, as bit patterns: of 2, 4, the least and the largest f32, -0 and -1
abbrev root : ℕ → ℕ
root b = to_bits binary32 (sqrtf (of_bits binary32 b))

pub roots : (root 0x4000_0000 ≡ 0x3fb5_04f3) × (root 0x4080_0000 ≡ 0x4000_0000) × (root 0x0000_0001 ≡ 0x1a35_04f3)
    × (root 0x7f7f_ffff ≡ 0x5f7f_ffff) × (root 0x8000_0000 ≡ 0x8000_0000) × (root 0xbf80_0000 ≡ 0x7fc0_0000)
unfolding sqrtf of_bits to_bits grains
roots = (refl, refl, refl, refl, refl, refl)
