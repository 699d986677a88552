-- Rounded fractions, products and sums of floats that are not below zero: a product is not below zero, a sum is no less than what was added to,
-- and adding a zero changes nothing. Assumes nothing.
use Rattle.laws.proofs.Prelude.{nan, ◌≡◌, refl, sym, ap, ◌∙◌, subst, Bool, true, false, ◌&&◌, cond, ℕ, zero, suc, ◌+◌, ◌-◌, ◌*◌, ◌^◌, ◌≤◌, ◌<◌, compare, zero-mul, mul-zero, mul-one, mul-pos, mul_comm}
use Rattle.laws.proofs.Prelude.{mul_assoc, mul_right_comm, mul-le-mul_right, zero-add, add-zero, sub-zero, arith, le-ltb, ltb-false, T, ltb, lit<, ℤ, pos, Float, inf, fin, binary32, fits, up, down}
use Rattle.laws.proofs.Prelude.{unlike, round, sum, add, mul, le, lt, eq, is_nan, nearest, of_bits, no}
use native.Mathlib.Nat.{zero-div, zero-mod, eq_of_mul-eq-mul_right}
use lib.Ieee.{Fits.{down_pos, round-fits}, Exact.{HasValue, round_exact}, Order.round_mono}
use Rattle.relay_math.specs.F32.{◌⊕◌, ◌⊗◌, 0·0, is_finite, unsigned, grains}
use Rattle.relay_math.proofs.{Signs.{is_below, of_value}, Order.{le_trans, le_of_not_lt, not_lt_of_le, le_right, eq_of_le, eq_refl_of}}
use Rattle.relay_math.proofs.Grains.{grains_of, grains_exact, grains_under, placed, same_grains}

near : (u : ℕ) → nearest 0 (compare 0 u) ≡ 0
near zero = refl
near (suc u) = rw Prim.Native.Nat.compare.zero-suc

-- nothing over anything is a zero
pub round_zero : (s : Bool) (c : ℕ) → round binary32 s 0 c ≡ fin s 0 (pos 0)
unfolding round
round_zero s c = simp (zero-div, zero-mod, near)

-- ---- a float's own value rounds to that value, and so to that float

own : (m : ℕ) (e : ℤ) → T (fits binary32 (fin false m e)) → HasValue (round binary32 false (m * up e) (down e)) false (m * up e) (down e)
own zero e f = round_exact binary32 false (0 * up e) (down e) 0 0 (down_pos e) (lit< tt) (lit< tt) (ap (λ (x : ℕ). x * 2 ^ 149) (zero-mul (up e)) ∙ sym (zero-mul (down e)))
own (suc m) e f =
    let p = placed false (suc m) e f in
    let g = grains_of (fin false (suc m) e) false (suc m * 2 ^ p.0) (refl, p.2) in
    round_exact binary32 false (suc m * up e) (down e) (suc m) p.0 (down_pos e) p.1 (subst (λ (x : ℕ). x < 2 ^ 277) g (grains_under false (suc m) e f)) p.2

grains_at : (m : ℕ) (e : ℤ) (a c : ℕ) → T (fits binary32 (fin false m e)) → m * up e * c ≡ a * down e → grains (fin false m e) * c ≡ a * 2 ^ 149
grains_at m e a c f h =
    let g = grains (fin false m e) in
    eq_of_mul-eq-mul_right (down e) (down_pos e) (g * c) (a * 2 ^ 149)
    (mul_right_comm g c (down e) ∙ ap (λ (z : ℕ). z * c) (sym (grains_exact false m e f)) ∙ mul_right_comm (m * up e) (2 ^ 149) c ∙ ap (λ (z : ℕ). z * 2 ^ 149) h ∙ mul_right_comm a (down e) (2 ^ 149))

pub round_own : (m : ℕ) (e : ℤ) → T (fits binary32 (fin false m e)) → round binary32 false (m * up e) (down e) ≡ fin false m e
round_own m e f =
    of_value (λ (x : Float). T (fits binary32 x) → x ≡ fin false m e) false (m * up e) (down e)
    (λ n d v k. same_grains (fin false n d) (fin false m e) tt tt k f
    (eq_of_mul-eq-mul_right (down e) (down_pos e) (grains (fin false n d)) (grains (fin false m e)) (grains_at n d (m * up e) (down e) k v.1 ∙ sym (grains_at m e (m * up e) (down e) f refl))))
    (round binary32 false (m * up e) (down e)) (own m e f) (round-fits binary32 false (m * up e) (down e))

-- a fraction that is no less rounds to no less
pub round_above : (m : ℕ) (e : ℤ) (a c : ℕ) → T (fits binary32 (fin false m e)) → 0 < c → m * up e * c ≤ a * down e → T (le (fin false m e) (round binary32 false a c))
round_above m e a c f C h = subst (λ (x : Float). T (le x (round binary32 false a c))) (round_own m e f) (round_mono binary32 (m * up e) (down e) a c (down_pos e) C h)

round_not_below : (a c : ℕ) → 0 < c → T (le 0·0 (round binary32 false a c))
unfolding of_bits fits
round_not_below a c C = round_above 0 (pos 0) a c tt C (omega arith)

-- ---- a float that is not below zero has nothing under a minus sign: its size is zero

none : (m : ℕ) (e : ℤ) (s : Bool) → T (le 0·0 (fin s m e)) → s ≡ true → m * up e ≡ 0
unfolding of_bits
none zero e true h q = zero-mul (up e)
none (suc m) e true h q = no (sym (not_lt_of_le (fin true (suc m) e) 0·0 h) ∙ is_below m e true)
none m e false h q = no q

zero_level : (s : Bool) → T (le 0·0 (fin s 0 (pos 0))) × T (le (fin s 0 (pos 0)) 0·0)
unfolding le of_bits
zero_level true = (tt, tt)
zero_level false = (tt, tt)

rounds_zero : (s : Bool) (a c : ℕ) → a ≡ 0 → T (le 0·0 (round binary32 s a c))
rounds_zero s a c h = rw (h, round_zero s c) (zero_level s).0

-- what has a minus sign is at most whatever is not below zero
minus_first : (m : ℕ) (e : ℤ) (z : Float) → T (le 0·0 z) → T (le (fin true m e) z)
unfolding of_bits lt is_nan
minus_first m e z h = le_trans (fin true m e) 0·0 z (le_of_not_lt 0·0 (fin true m e) tt tt refl) h

-- ---- a product

pub product_not_below : (x y : Float) → T (is_finite x) → T (is_finite y) → T (le 0·0 x) → T (le 0·0 y) → T (le 0·0 (x ⊗ y))
unfolding mul is_finite
product_not_below (fin true m e) (fin true n d) f g p q = round_not_below (m * up e * (n * up d)) (down e * down d) (mul-pos (down_pos e) (down_pos d))
product_not_below (fin false m e) (fin false n d) f g p q = round_not_below (m * up e * (n * up d)) (down e * down d) (mul-pos (down_pos e) (down_pos d))
product_not_below (fin true m e) (fin false n d) f g p q = rounds_zero true (m * up e * (n * up d)) (down e * down d) (rw (none m e true p refl) (zero-mul (n * up d)))
product_not_below (fin false m e) (fin true n d) f g p q = rounds_zero true (m * up e * (n * up d)) (down e * down d) (rw (none n d true q refl) (mul-zero (m * up e)))
product_not_below nan y f g p q = elim f [ ]
product_not_below (inf _) y f g p q = elim f [ ]
product_not_below (fin false m e) nan f g p q = elim g [ ]
product_not_below (fin false m e) (inf _) f g p q = elim g [ ]
product_not_below (fin true m e) nan f g p q = elim g [ ]
product_not_below (fin true m e) (inf _) f g p q = elim g [ ]

-- anything finite times +0 is a zero
pub zero_times : (x : Float) → T (is_finite x) → (b : Bool) × (x ⊗ 0·0 ≡ fin b 0 (pos 0))
unfolding mul is_finite of_bits
zero_times (fin s m e) f = (unlike s false, rw mul-zero (round_zero (unlike s false) (down e * 1)))
zero_times nan f = elim f [ ]
zero_times (inf _) f = elim f [ ]

-- ---- a sum

-- of ±a and ±b over c, where a minus sign has nothing under it
pub sum_is : (s : Bool) (a : ℕ) (t : Bool) (b c : ℕ) → (s ≡ true → a ≡ 0) → (t ≡ true → b ≡ 0) → sum binary32 s a t b c ≡ round binary32 (s && t) (a + b) c
unfolding sum
sum_is true a true b c p q = refl
sum_is false a false b c p q = refl
sum_is false a true b c p q = rw (q refl, le-ltb a 0 (omega arith), add-zero a, sub-zero a)
sum_is true a false b c p q = rw (p refl) (go (ltb 0 b) refl)
  where
    go : (u : Bool) → ltb 0 b ≡ u → cond u (round binary32 false (b - 0) c) (round binary32 (true && ltb b 0) (0 - b) c) ≡ round binary32 false (0 + b) c
    go true e = rw (sub-zero b, zero-add b)
    go false e = let z : b ≡ 0 = omega (arith, ltb-false 0 b e) in rw z

abbrev over : ℤ → ℤ → ℕ
over e d = down e * down d

scaled : (m : ℕ) (e d : ℤ) → m * up e ≡ 0 → m * up e * down d ≡ 0
scaled m e d h = rw h (zero-mul (down d))

plus_is : (s : Bool) (m : ℕ) (e : ℤ) (t : Bool) (n : ℕ) (d : ℤ) → T (le 0·0 (fin s m e)) → T (le 0·0 (fin t n d)) → fin s m e ⊕ fin t n d ≡ round binary32 (s && t)
    (m * up e * down d + n * up d * down e) (over e d)
unfolding add
plus_is s m e t n d p q = sum_is s (m * up e * down d) t (n * up d * down e) (over e d) (λ h. scaled m e d (none m e s p h)) (λ h. scaled n d e (none n d t q h))

pub sum_grows : (x y : Float) → T (fits binary32 x) → T (le 0·0 x) → T (le 0·0 y) → T (le x (x ⊕ y))
unfolding add le of_bits
sum_grows (inf false) (inf false) f p q = tt
sum_grows (inf false) (fin t n d) f p q = tt
sum_grows (fin s m e) (inf false) f p q = tt
sum_grows (fin false m e) (fin t n d) f p q =
    let a = m * up e * down d in let w = a + n * up d * down e in
    let k : a * down e ≤ w * down e = mul-le-mul_right (down e) (omega arith) in
    let l : m * up e * over e d ≡ a * down e = ap (λ (z : ℕ). m * up e * z) (mul_comm (down e) (down d)) ∙ sym (mul_assoc (m * up e) (down d) (down e)) in
    rw (plus_is false m e t n d p q) (round_above m e w (over e d) f (mul-pos (down_pos e) (down_pos d)) (omega arith))
sum_grows (fin true m e) (fin false n d) f p q =
    let w = m * up e * down d + n * up d * down e in
    rw (plus_is true m e false n d p q) (minus_first m e (round binary32 false w (over e d)) (round_not_below w (over e d) (mul-pos (down_pos e) (down_pos d))))
sum_grows (fin true m e) (fin true n d) f p q =
    let a = scaled m e d (none m e true p refl) in let b = scaled n d e (none n d true q refl) in
    let w = m * up e * down d + n * up d * down e in
    rw (plus_is true m e true n d p q) (minus_first m e (round binary32 true w (over e d)) (rounds_zero true w (over e d) (omega arith)))
sum_grows nan y f p q = elim p [ ]
sum_grows (inf false) nan f p q = elim q [ ]
sum_grows (inf false) (inf true) f p q = elim q [ ]
sum_grows (inf true) y f p q = elim p [ ]
sum_grows (fin s m e) nan f p q = elim q [ ]
sum_grows (fin s m e) (inf true) f p q = elim q [ ]

-- a zero added: to a float with no minus sign it gives that float, bit for bit
pub zero_adds_nothing : (x : Float) (b : Bool) → T (fits binary32 x) → T (unsigned x) → x ⊕ fin b 0 (pos 0) ≡ x
unfolding add
zero_adds_nothing (inf s) b f u = refl
zero_adds_nothing (fin false m e) b f u = sum_is false (m * up e * 1) b (0 * down e) (down e * 1) (λ h. no h) (λ h. zero-mul (down e))
    ∙ rw (zero-mul (down e), add-zero (m * up e * 1), mul-one (m * up e), mul-one (down e)) (round_own m e f)
zero_adds_nothing nan b f u = elim u [ ]
zero_adds_nothing (fin true m e) b f u = elim u [ ]

-- and the same number, if -0 is one
pub zero_keeps_number : (x : Float) (b : Bool) → T (fits binary32 x) → T (le 0·0 x) → T (eq x (x ⊕ fin b 0 (pos 0)))
unfolding le of_bits
zero_keeps_number (inf false) b f p = unfold add eq in tt
zero_keeps_number (fin false m e) b f p = rw (zero_adds_nothing (fin false m e) b f tt) (eq_refl_of (fin false m e) (le_right 0·0 (fin false m e) p))
zero_keeps_number (fin true m e) b f p =
    let z : fin true m e ⊕ fin b 0 (pos 0) ≡ fin b 0 (pos 0) = plus_is true m e b 0 (pos 0) p (zero_level b).0 ∙ rw (none m e true p refl, zero-mul (down e)) (round_zero b (down e * 1)) in
    rw z (eq_of_le (fin true m e) (fin b 0 (pos 0)) (minus_first m e (fin b 0 (pos 0)) (zero_level b).0) (le_trans (fin b 0 (pos 0)) 0·0 (fin true m e) (zero_level b).1 p))
zero_keeps_number nan b f p = elim p [ ]
zero_keeps_number (inf true) b f p = elim p [ ]
