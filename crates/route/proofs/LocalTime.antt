-- A time below a sum, less what was added to, lies within 0 and what was added: no f32 lies between a sum and its rounding. Assumes nothing.
use Rattle.laws.proofs.Prelude.{◌≡◌, refl, sym, ◌∙◌, subst, inl, inr, true, false, ℕ, ◌+◌, ◌-◌, ◌*◌, ◌≤◌, ◌<◌, mul-pos, mul_comm, mul_assoc, add-mul, le_of_lt, arith, le-ltb, ltb-false, T, ℤ, pos}
use Rattle.laws.proofs.Prelude.{Float, nan, inf, fin, binary32, fits, up, down, round, sum, add, sub, neg, le, lt, of_bits, no, le_or_lt}
use native.Mathlib.Nat.{mul_left_comm, mul-sub}
use lib.Ieee.{Fits.down_pos, Order.round_mono, Positive.above_of_le}
use Rattle.relay_math.{specs.F32.{◌⊕◌, ◌⊖◌, 0·0, 1e-3, is_finite, unsigned, Within}, proofs.{Order.{le_trans, not_lt_of_le}, Signs.of_rounded, Sums.{round_zero, round_own, round_above}}}
use Rattle.relay_traj.specs.Quintic.{Lasts}

-- ---- fractions: X / p ≤ N / q + L / r gives X / p - N / q ≤ L / r

less : (A B C : ℕ) → A ≤ B + C → A - B ≤ C
less A B C h = omega arith

rest_le : (X N L p q r : ℕ) → X * (q * r) ≤ (N * r + L * q) * p → (X * q - N * p) * r ≤ L * (p * q)
rest_le X N L p q r h =
    let a : r * (X * q) ≡ X * (q * r) = simp (mul_comm, mul_left_comm) in
    let b : (N * r + L * q) * p ≡ r * (N * p) + L * (p * q) = simp (add-mul, mul_assoc, mul_comm, mul_left_comm) in
    rw (mul_comm (X * q - N * p) r, mul-sub r (X * q) (N * p)) (less (r * (X * q)) (r * (N * p)) (L * (p * q)) (rw (a, ← b) h))

-- ---- a rounded fraction

not_below_zero : (a c : ℕ) → 0 < c → T (le 0·0 (round binary32 false a c))
unfolding of_bits fits
not_below_zero a c C = round_above 0 (pos 0) a c tt C (omega arith)

-- a float below a rounded fraction is not above the fraction
under : (m : ℕ) (e : ℤ) (a c : ℕ) → T (fits binary32 (fin false m e)) → 0 < c → lt (fin false m e) (round binary32 false a c) ≡ true → m * up e * c ≤ a * down e
under m e a c f C h =
    elim (le_or_lt (m * up e * c) (a * down e)) [
      | inl k ↦ k
      | inr k ↦
          no (sym (not_lt_of_le (fin false m e) (round binary32 false a c)
          (subst (λ (x : Float). T (le (round binary32 false a c) x)) (round_own m e f) (round_mono binary32 a c (m * up e) (down e) C (down_pos e) (le_of_lt k)))) ∙ h)
    ]

-- ---- signs

-- a lasting duration has no minus sign
pub lasts_plus : (m : ℕ) (e : ℤ) → T (le 1e-3 (fin true m e)) → ⊥
unfolding of_bits
lasts_plus m e h = above_of_le 1e-3 (fin true m e) tt h

pub sum_unsigned : (x d : Float) → T (unsigned x) → Lasts d → T (unsigned (x ⊕ d))
unfolding add sum is_finite
sum_unsigned nan d u l = absurd u
sum_unsigned (inf true) d u l = absurd u
sum_unsigned (inf false) nan u l = absurd l.0
sum_unsigned (inf false) (inf s) u l = absurd l.0
sum_unsigned (inf false) (fin s n d) u l = tt
sum_unsigned (fin true m e) d u l = absurd u
sum_unsigned (fin false m e) nan u l = absurd l.0
sum_unsigned (fin false m e) (inf s) u l = absurd l.0
sum_unsigned (fin false m e) (fin true n d) u l = absurd (lasts_plus n d l.1)
sum_unsigned (fin false m e) (fin false n d) u l = of_rounded (λ (x : Float). T (unsigned x)) false (λ k c. tt) tt (m * up e * down d + n * up d * down e) (down e * down d)

-- ---- the difference

minus_is : (m : ℕ) (e : ℤ) (n : ℕ) (d : ℤ) → n * up d * down e ≤ m * up e * down d
    → fin false m e ⊖ fin false n d ≡ round binary32 false (m * up e * down d - n * up d * down e) (down e * down d)
unfolding sub neg add sum
minus_is m e n d h = rw (le-ltb (m * up e * down d) (n * up d * down e) h)

-- the time -0.0: then what was added to is zero, and so is the difference
zero_time : (m : ℕ) (e : ℤ) (n : ℕ) (d : ℤ) (l : ℕ) (c : ℤ) → T (le 0·0 (fin true m e)) → T (le (fin false n d) (fin true m e)) → T (fits binary32 (fin false l c))
    → Within 0·0 (fin false l c) (fin true m e ⊖ fin false n d)
unfolding sub neg add sum
zero_time m e n d l c p h f =
    let k = ltb-false 0 (m * up e * down d + n * up d * down e) (unfold lt in not_lt_of_le (fin true m e) (fin false n d) h) in
    let z : m * up e * down d + n * up d * down e ≡ 0 = omega (arith, k) in
    rw (z, round_zero true (down e * down d)) (unfold le of_bits in tt, zero_first)
  where
    zero_first : T (le (fin true 0 (pos 0)) (fin false l c))
    zero_first = subst (λ (x : Float). T (le (fin true 0 (pos 0)) x)) (round_own l c f)
        (le_trans (fin true 0 (pos 0)) 0·0 (round binary32 false (l * up c) (down c)) (unfold le of_bits in tt) (not_below_zero (l * up c) (down c) (down_pos c)))

pub past_all : (y : Float) → lt (inf false) y ≡ false
unfolding lt
past_all nan = refl
past_all (inf t) = refl
past_all (fin t n d) = refl

-- x is the time, z the end before the leg, d its duration
pub local_time : (x z d : Float) → T (fits binary32 x) → T (le 0·0 x) → T (unsigned z) → T (le z x) → T (fits binary32 d) → Lasts d → lt x (z ⊕ d) ≡ true
    → Within 0·0 d (x ⊖ z)
unfolding is_finite
local_time nan z d f p u h g l k = absurd (unfold le of_bits in p)
local_time (inf true) z d f p u h g l k = absurd (unfold le of_bits in p)
local_time (inf false) z d f p u h g l k = no (sym (past_all (z ⊕ d)) ∙ k)
local_time (fin s m e) nan d f p u h g l k = absurd u
local_time (fin s m e) (inf true) d f p u h g l k = absurd u
local_time (fin s m e) (inf false) d f p u h g l k = absurd (unfold le in h)
local_time (fin s m e) (fin true n j) d f p u h g l k = absurd u
local_time (fin s m e) (fin false n j) nan f p u h g l k = absurd l.0
local_time (fin s m e) (fin false n j) (inf t) f p u h g l k = absurd l.0
local_time (fin s m e) (fin false n j) (fin true i c) f p u h g l k = absurd (lasts_plus i c l.1)
local_time (fin true m e) (fin false n j) (fin false i c) f p u h g l k = zero_time m e n j i c p h g
local_time (fin false m e) (fin false n j) (fin false i c) f p u h g l k =
    let X = m * up e in let N = n * up j in let L = i * up c in
    let B = ltb-false (X * down j) (N * down e) (unfold lt in not_lt_of_le (fin false m e) (fin false n j) h) in
    let C = mul-pos (down_pos e) (down_pos j) in
    let a = under m e (N * down c + L * down j) (down j * down c) f (mul-pos (down_pos j) (down_pos c)) (unfold add sum in k) in
    let t = round_mono binary32 (X * down j - N * down e) (down e * down j) L (down c) C (down_pos c) (rest_le X N L (down e) (down j) (down c) a) in
    rw (minus_is m e n j B) (
      not_below_zero (X * down j - N * down e) (down e * down j) C,
      subst (λ (y : Float). T (le (round binary32 false (X * down j - N * down e) (down e * down j)) y)) (round_own i c g) t,
    )
