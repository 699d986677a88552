-- The order of floats, infinities and NaNs among them. `le_is_not_above` and `le_trans` come from the sizes; the other laws follow from these two. Assumes nothing.
use Rattle.laws.proofs.Prelude.{◌≡◌, refl, sym, ap, ◌∙◌, inl, inr, Bool, true, false, not, ◌&&◌, ◌||◌, cond, and-false, ℕ, ◌+◌, ◌*◌, ◌<◌, le_of_eq, mul_right_comm, mul-lt-mul_of_pos_right}
use Rattle.laws.proofs.Prelude.{mul-le-mul_right, add-mul, zero-mul, arith, ltb-false, lt-ltb, le-ltb, eq-eqb, ne_eqb, not-true, ℤ, T, ltb, eqb, Float, nan, inf, fin, up, down, lt, eq, le, ne, is_nan}
use Rattle.laws.proofs.Prelude.{held, le_or_lt}
use Rattle.std.proofs.Common.{eq-zero-or-pos}
use lib.Ieee.{below, level, Bits.is_true, Fits.down_pos}
use Rattle.relay_math.specs.F32.{is_finite, finite_above, clamp, Within}
use Rattle.laws.proofs.Tests.{one_sign}

-- ---- sizes with signs, over one denominator: ±b ≤ ±a says that ±a is not below ±b

not_both_zero : (a b : ℕ) → 0 < a + b → (eqb b a && eqb b 0) ≡ false
not_both_zero a b h = elim (eq-zero-or-pos b) [ inl z ↦ rw (ne_eqb b a (λ e. omega arith)) | inr l ↦ rw (ne_eqb b 0 (λ e. omega arith)) (and-false (eqb b a)) ]

signs : (s : Bool) (a : ℕ) (t : Bool) (b : ℕ) → (below t b s a || level t b s a) ≡ not (below s a t b)
signs false a false b = one_sign b a (eqb b a) (eq-eqb b a) (ne_eqb b a)
signs true a true b = one_sign a b (eqb b a) (λ p. eq-eqb b a (sym p)) (λ n. ne_eqb b a (λ p. n (sym p)))
signs false a true b = elim (eq-zero-or-pos (b + a)) [ inl z ↦ rw (le-ltb 0 (b + a) (le_of_eq z), eq-eqb b a (omega arith), eq-eqb b 0 (omega arith)) | inr l ↦ rw (lt-ltb 0 (b + a) l) ]
signs true a false b = elim (eq-zero-or-pos (a + b)) [
  | inl z ↦ rw (le-ltb 0 (a + b) (le_of_eq z), eq-eqb b a (omega arith), eq-eqb b 0 (omega arith))
  | inr l ↦
      rw (lt-ltb 0 (a + b) l, not_both_zero a b l)
]

-- ±c ≤ ±b ≤ ±a
chain : (s t u : Bool) (a b c : ℕ) → below s a t b ≡ false → below t b u c ≡ false → below s a u c ≡ false
chain false false false a b c p q = le-ltb a c (omega (arith, ltb-false a b p, ltb-false b c q))
chain false t true a b c p q = refl
chain false true false a b c p q = le-ltb a c (omega (arith, ltb-false 0 (b + c) q))
chain true false false a b c p q = le-ltb 0 (a + c) (omega (arith, ltb-false 0 (a + b) p, ltb-false b c q))
chain true false true a b c p q = le-ltb c a (omega (arith, ltb-false 0 (a + b) p))
chain true true false a b c p q = le-ltb 0 (a + c) (omega (arith, ltb-false b a p, ltb-false 0 (b + c) q))
chain true true true a b c p q = le-ltb c a (omega (arith, ltb-false b a p, ltb-false c b q))

-- a larger denominator changes nothing
pub ltb_scaled : (a b k : ℕ) → 0 < k → ltb (a * k) (b * k) ≡ ltb a b
ltb_scaled a b k K = elim (le_or_lt b a) [
  | inl h ↦ rw (le-ltb a b h) (le-ltb (a * k) (b * k) (mul-le-mul_right k h))
  | inr h ↦ rw (lt-ltb a b h)
      (lt-ltb (a * k) (b * k) (mul-lt-mul_of_pos_right h K))
]

scaled : (s : Bool) (a : ℕ) (t : Bool) (b k : ℕ) → 0 < k → below s (a * k) t (b * k) ≡ below s a t b
scaled false a false b k K = ltb_scaled a b k K
scaled false a true b k K = refl
scaled true a false b k K = rw (← add-mul a b k) (rw (zero-mul k) at (ltb_scaled 0 (a + b) k K))
scaled true a true b k K = ltb_scaled b a k K

-- the same of ±x / p, ±y / q, ±z / r
fractions : (s t u : Bool) (x y z p q r : ℕ) → 0 < p → 0 < q → 0 < r → below s (x * q) t (y * p) ≡ false → below t (y * r) u (z * q) ≡ false → below s (x * r) u (z * p) ≡ false
fractions s t u x y z p q r P Q R h k =
    let a : below s (x * q * r) t (y * p * r) ≡ false = scaled s (x * q) t (y * p) r R ∙ h in
    let b : below t (y * p * r) u (z * p * q) ≡ false = rw (mul_right_comm y p r, mul_right_comm z p q) (scaled t (y * r) u (z * q) p P ∙ k) in
    sym (scaled s (x * r) u (z * p) q Q) ∙ rw (mul_right_comm x r q) (chain s t u (x * q * r) (y * p * r) (z * p * q) a b)

-- ---- every two floats

-- what is no NaN
abbrev pub Number : Float → Type 0
Number x = T (not (is_nan x))

pub finite_number : (x : Float) → T (is_finite x) → Number x
unfolding is_finite is_nan
finite_number (inf s) h = tt
finite_number (fin s m e) h = tt
finite_number nan h = elim h [ ]

pub le_left : (x y : Float) → T (le x y) → Number x
unfolding le is_nan
le_left (inf s) y h = tt
le_left (fin s m e) y h = tt
le_left nan y h = elim h [ ]

pub le_right : (x y : Float) → T (le x y) → Number y
unfolding le is_nan
le_right (inf s) (inf t) h = tt
le_right (inf s) (fin t n d) h = tt
le_right (fin s m e) (inf t) h = tt
le_right (fin s m e) (fin t n d) h = tt
le_right nan y h = elim h [ ]
le_right (inf s) nan h = elim h [ ]
le_right (fin s m e) nan h = elim h [ ]

pub le_is_not_above : (x y : Float) → Number x → Number y → le y x ≡ not (lt x y)
unfolding is_nan lt le eq
le_is_not_above (inf true) (inf true) p q = refl
le_is_not_above (inf true) (inf false) p q = refl
le_is_not_above (inf false) (inf true) p q = refl
le_is_not_above (inf false) (inf false) p q = refl
le_is_not_above (inf true) (fin t n d) p q = refl
le_is_not_above (inf false) (fin t n d) p q = refl
le_is_not_above (fin s m e) (inf true) p q = refl
le_is_not_above (fin s m e) (inf false) p q = refl
le_is_not_above (fin s m e) (fin t n d) p q = signs s (m * up e * down d) t (n * up d * down e)
le_is_not_above nan y p q = elim p [ ]
le_is_not_above (inf false) nan p q = elim q [ ]
le_is_not_above (inf true) nan p q = elim q [ ]
le_is_not_above (fin s m e) nan p q = elim q [ ]

-- so of two numbers one is at most the other
pub le_of_not_lt : (x y : Float) → Number x → Number y → lt x y ≡ false → T (le y x)
le_of_not_lt x y p q h = held (le_is_not_above x y p q ∙ rw h)

pub not_lt_of_le : (x y : Float) → T (le y x) → lt x y ≡ false
not_lt_of_le x y h = not-true (lt x y) (sym (le_is_not_above x y (le_right y x h) (le_left y x h)) ∙ is_true (le y x) h)

finite_trans : (s : Bool) (m : ℕ) (e : ℤ) (t : Bool) (n : ℕ) (d : ℤ) (u : Bool) (l : ℕ) (c : ℤ) → T (le (fin s m e) (fin t n d)) → T (le (fin t n d) (fin u l c)) → T (le (fin s m e) (fin u l c))
finite_trans s m e t n d u l c h k =
    le_of_not_lt (fin u l c) (fin s m e) (le_right (fin t n d) (fin u l c) k) (le_left (fin s m e) (fin t n d) h)
    (unfold lt in fractions u t s (l * up c) (n * up d) (m * up e) (down c) (down d) (down e) (down_pos c) (down_pos d) (down_pos e) (not_lt_of_le (fin u l c) (fin t n d) k)
    (not_lt_of_le (fin t n d) (fin s m e) h))

pub le_trans : (x y z : Float) → T (le x y) → T (le y z) → T (le x z)
unfolding le is_nan
le_trans (inf true) y nan h k = absurd (le_right y nan k)
le_trans (inf true) y (inf true) h k = tt
le_trans (inf true) y (inf false) h k = tt
le_trans (inf true) y (fin u l c) h k = tt
le_trans (inf false) (inf false) z h k = k
le_trans (fin s m e) (inf false) (inf false) h k = tt
le_trans (fin s m e) (fin t n d) (inf false) h k = tt
le_trans (fin s m e) (fin t n d) (fin u l c) h k = finite_trans s m e t n d u l c h k
le_trans nan y z h k = elim h [ ]
le_trans (inf false) nan z h k = elim h [ ]
le_trans (inf false) (inf true) z h k = elim h [ ]
le_trans (inf false) (fin t n d) z h k = elim h [ ]
le_trans (fin s m e) nan z h k = elim h [ ]
le_trans (fin s m e) (inf false) nan h k = elim k [ ]
le_trans (fin s m e) (inf false) (inf true) h k = elim k [ ]
le_trans (fin s m e) (inf false) (fin u l c) h k = elim k [ ]
le_trans (fin s m e) (inf true) z h k = elim h [ ]
le_trans (fin s m e) (fin t n d) nan h k = elim k [ ]
le_trans (fin s m e) (fin t n d) (inf true) h k = elim k [ ]

pub le_of_lt : (x y : Float) → lt x y ≡ true → T (le x y)
unfolding le
le_of_lt x y h = rw h tt

pub eq_of_le : (x y : Float) → T (le x y) → T (le y x) → T (eq x y)
unfolding le
eq_of_le x y h k = rw (not_lt_of_le x y k) at h

pub lt_irrefl : (x : Float) → lt x x ≡ false
lt_irrefl x = go (lt x x) refl
  where
    go : (t : Bool) → lt x x ≡ t → t ≡ false
    go true e = sym e ∙ not_lt_of_le x x (le_of_lt x x e)
    go false e = refl

pub le_refl_of : (x : Float) → Number x → T (le x x)
le_refl_of x n = le_of_not_lt x x n n (lt_irrefl x)

pub eq_refl_of : (x : Float) → Number x → T (eq x x)
eq_refl_of x n = eq_of_le x x (le_refl_of x n) (le_refl_of x n)

-- a NaN is the one that differs from itself
pub differs_as_nan : (x : Float) → ne x x ≡ is_nan x
unfolding ne is_nan
differs_as_nan nan = unfold eq in refl
differs_as_nan (inf s) = ap not (is_true (eq (inf s) (inf s)) (eq_refl_of (inf s) tt))
differs_as_nan (fin s m e) = ap not (is_true (eq (fin s m e) (fin s m e)) (eq_refl_of (fin s m e) tt))

pub lt_trans : (x y z : Float) → lt x y ≡ true → lt y z ≡ true → lt x z ≡ true
lt_trans x y z p q = go (lt x z) refl
  where
    go : (t : Bool) → lt x z ≡ t → t ≡ true
    go true e = refl
    go false e =
        let h = le_of_not_lt x z (le_left x y (le_of_lt x y p)) (le_right y z (le_of_lt y z q)) e in
        sym (not_lt_of_le y z (le_trans z x y h (le_of_lt x y p))) ∙ q

-- x < y < z leaves no z < x
pub lt_above : (x y z : Float) → lt x y ≡ true → lt y z ≡ true → lt z x ≡ false
lt_above x y z p q = not_lt_of_le z x (le_trans x y z (le_of_lt x y p) (le_of_lt y z q))

-- ---- intervals

-- a number between two finite ones is finite
pub within_finite : (lo hi x : Float) → T (is_finite lo) → T (is_finite hi) → Within lo hi x → T (is_finite x)
unfolding is_finite lt le eq
within_finite lo hi (fin s m e) p q w = tt
within_finite (fin s m e) hi nan p q w = absurd w.0
within_finite (fin s m e) hi (inf true) p q w = absurd w.0
within_finite (fin s m e) (fin t n d) (inf false) p q w = absurd w.1
within_finite nan hi nan p q w = elim p [ ]
within_finite (inf _) hi nan p q w = elim p [ ]
within_finite nan hi (inf _) p q w = elim p [ ]
within_finite (inf _) hi (inf _) p q w = elim p [ ]
within_finite (fin s m e) nan (inf false) p q w = elim q [ ]
within_finite (fin s m e) (inf _) (inf false) p q w = elim q [ ]

module _ (lo hi : Float) (h : T (le lo hi)) where
  pub low_within : Within lo hi lo
  low_within = (le_refl_of lo (le_left lo hi h), h)

  pub high_within : Within lo hi hi
  high_within = (h, le_refl_of hi (le_right lo hi h))

  pub between : (x : Float) → Number x → lt x lo ≡ false → lt hi x ≡ false → Within lo hi x
  between x n p q = (le_of_not_lt x lo n (le_left lo hi h) p, le_of_not_lt hi x (le_right lo hi h) n q)

  pub clamp_within : (x : Float) → Number x → Within lo hi (clamp x lo hi)
  clamp_within x n = go (lt x lo) (lt hi (cond (lt x lo) lo x)) refl refl
    where
      go : (t u : Bool) → lt x lo ≡ t → lt hi (cond t lo x) ≡ u → Within lo hi (cond u hi (cond t lo x))
      go t true p q = high_within
      go true false p q = low_within
      go false false p q = between x n p q

-- x where it is finite and above floor, else d, is finite and no less than floor if d is
pub finite_from : (floor x d : Float) → T (is_finite d) × T (le floor d) → let y = cond (finite_above floor x) x d in T (is_finite y) × T (le floor y)
finite_from floor x d h = go (is_finite x) (lt floor x) refl refl
  where
    go : (t u : Bool) → is_finite x ≡ t → lt floor x ≡ u → let y = cond (t && u) x d in T (is_finite y) × T (le floor y)
    go true true p q = (held p, le_of_lt floor x q)
    go true false p q = h
    go false u p q = h
