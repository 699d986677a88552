-- Finite floats of at most a whole number in size: what products, sums and differences of them are at most. Assumes nothing.
use Rattle.laws.proofs.Prelude.{ℕ, zero, suc, ◌+◌, ◌-◌, ◌*◌, ◌^◌, ◌≤◌, ◌<◌, sym, ap, ◌∙◌, Bool, true, false, Bool·beq, cond, ◌&&◌, le_trans, lt_of_lt_of_le, le_of_eq, add-mul, mul-one, mul_comm}
use Rattle.laws.proofs.Prelude.{mul_assoc, mul_right_comm, mul-pos, mul-le-mul, mul-le-mul_right, le_of_mul-le-mul_right, arith, ℤ, pos, T, ltb, lit<, lit≤, leb→le, eqb, shl_lt, pow_mono, Float, nan}
use Rattle.laws.proofs.Prelude.{inf, fin, binary32, up, down, unlike, round, sum, neg, add, sub, mul, lt, le, eq}
use mathlib.Core.Bool.{true≢false}
use native.Mathlib.Nat.{add-le-add, mul-mul-mul_comm}
use lib.{Dec.eqb→eq, Ieee.{Exact.{HasValue, round_exact}, Fits.{down_pos, and_l}, Order.round_mono}}
use Rattle.relay_math.{specs.F32.{◌⊕◌, ◌⊖◌, ◌⊗◌, is_finite}, proofs.{Signs.size_pos, Sums.round_zero, Zeros.none}}
use Rattle.laws.proofs.Tests.{ordered}
use Rattle.relay_geo.proofs.Opposites.{Opposite, infinite, finite, zeros, rounds}

-- finite, and at most k in size
abbrev pub Upto : ℕ → Float → Type 0
Upto k nan = ⊥
Upto k (inf s) = ⊥
Upto k (fin s m e) = m * up e ≤ k * down e

pub upto_finite : (k : ℕ) (x : Float) → Upto k x → T (is_finite x)
unfolding is_finite
upto_finite k nan h = absurd h
upto_finite k (inf s) h = absurd h
upto_finite k (fin s m e) h = tt

upto_opposite : (k : ℕ) {x y : Float} → Opposite x y → Upto k x → Upto k y
upto_opposite k (infinite s) h = absurd h
upto_opposite k (finite s m e) h = h
upto_opposite k (zeros p (none t d)) h = omega arith

pub le_is : (m : ℕ) (e : ℤ) (n : ℕ) (d : ℤ) → T (le (fin false m e) (fin false n d)) → m * up e * down d ≤ n * up d * down e
unfolding le lt eq
le_is m e n d h = leb→le (m * up e * down d) (n * up d * down e) (rw (← ordered (m * up e * down d) (n * up d * down e)) h)

-- between 0 and a number of the value k
between : (k : ℕ) (x z : Float) → HasValue z false k 1 → T (le (fin false 0 (pos 0)) x) → T (le x z) → Upto k x
unfolding le lt eq
between k x nan v p q = absurd v
between k x (inf t) v p q = absurd v
between k x (fin true n d) v p q = absurd (true≢false v.0)
between k nan (fin false n d) v p q = absurd q
between k (inf true) (fin false n d) v p q = absurd p
between k (inf false) (fin false n d) v p q = absurd q
between k (fin true zero e) (fin false n d) v p q = omega arith
between k (fin true (suc m) e) (fin false n d) v p q = absurd (omega (arith, size_pos m e, eqb→eq (0 * down e) (suc m * up e * 1) (and_l (eqb (0 * down e) (suc m * up e * 1)) (eqb (0 * down e) 0) p)))
between k (fin false m e) (fin false n d) v p q =
    le_of_mul-le-mul_right (le_trans (le_is m e n d q) (le_of_eq (ap (λ (y : ℕ). y * down e) (sym (mul-one (n * up d)) ∙ v.1) ∙ mul_right_comm k (down d) (down e)))) (down_pos d)

module _ (k : ℕ) (K : k < 2 ^ 24) where
  -- k is an f32
  whole : HasValue (round binary32 false k 1) false k 1
  whole = round_exact binary32 false k 1 k 149 (lit< tt) K (lt_of_lt_of_le (shl_lt 24 149 K) (pow_mono {i = 173} {j = 277} (lit≤ tt))) (sym (mul-one (k * 2 ^ 149)))

  positive_upto : (a c : ℕ) → 0 < c → a ≤ k * c → Upto k (round binary32 false a c)
  positive_upto a c C h =
      between k (round binary32 false a c) (round binary32 false k 1) whole (rw (round_zero false 1) at (round_mono binary32 0 1 a c (lit< tt) C (omega arith)))
      (round_mono binary32 a c k 1 C (lit< tt) (omega (arith, h)))

  round_upto : (s : Bool) (a c : ℕ) → 0 < c → a ≤ k * c → Upto k (round binary32 s a c)
  round_upto false a c C h = positive_upto a c C h
  round_upto true a c C h = upto_opposite k (rounds false a c) (positive_upto a c C h)

  either : (b : Bool) (x y : Float) → Upto k x → Upto k y → Upto k (cond b x y)
  either true x y p q = p
  either false x y p q = q

  sum_upto : (s t : Bool) (a b c : ℕ) → 0 < c → a + b ≤ k * c → Upto k (sum binary32 s a t b c)
  unfolding sum
  sum_upto s t a b c C h =
      either (Bool·beq s t) _ _ (round_upto s (a + b) c C h) (either (ltb a b) _ _ (round_upto t (b - a) c C (omega (arith, h))) (round_upto (s && ltb b a) (a - b) c C (omega (arith, h))))

pub times_upto : (j k : ℕ) → j * k < 2 ^ 24 → (x y : Float) → Upto j x → Upto k y → Upto (j * k) (x ⊗ y)
unfolding mul
times_upto j k K nan y p q = absurd p
times_upto j k K (inf s) y p q = absurd p
times_upto j k K (fin s m e) nan p q = absurd q
times_upto j k K (fin s m e) (inf t) p q = absurd q
times_upto j k K (fin s m e) (fin t n d) p q =
    round_upto (j * k) K (unlike s t) (m * up e * (n * up d)) (down e * down d) (mul-pos (down_pos e) (down_pos d)) (le_trans (mul-le-mul p q) (le_of_eq (mul-mul-mul_comm j (down e) k (down d))))

pub plus_upto : (j k : ℕ) → j + k < 2 ^ 24 → (x y : Float) → Upto j x → Upto k y → Upto (j + k) (x ⊕ y)
unfolding add
plus_upto j k K nan y p q = absurd p
plus_upto j k K (inf s) y p q = absurd p
plus_upto j k K (fin s m e) nan p q = absurd q
plus_upto j k K (fin s m e) (inf t) p q = absurd q
plus_upto j k K (fin s m e) (fin t n d) p q =
    let a : m * up e * down d ≤ j * (down e * down d) = rw (← mul_assoc j (down e) (down d)) (mul-le-mul_right (down d) p) in
    let b : n * up d * down e ≤ k * (down e * down d) = rw (mul_comm (down e) (down d), ← mul_assoc k (down d) (down e)) (mul-le-mul_right (down e) q) in
    sum_upto (j + k) K s t (m * up e * down d) (n * up d * down e) (down e * down d) (mul-pos (down_pos e) (down_pos d)) (rw (add-mul j k (down e * down d)) (add-le-add a b))

pub minus_upto : (j k : ℕ) → j + k < 2 ^ 24 → (x y : Float) → Upto j x → Upto k y → Upto (j + k) (x ⊖ y)
unfolding sub neg
minus_upto j k K x y p q = plus_upto j k K x (neg y) p (turned y q)
  where
    turned : (y : Float) → Upto k y → Upto k (neg y)
    turned nan h = h
    turned (inf s) h = h
    turned (fin s m e) h = h
