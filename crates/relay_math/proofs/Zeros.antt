-- Zeros of either sign: what is made of them, or by a product with one, is one again. Assumes nothing.
use Rattle.laws.proofs.Prelude.{inf, nan, refl, subst, Bool, true, false, not, ◌&&◌, ℕ, zero, suc, ◌*◌, zero-mul, mul-zero, ℤ, pos, T, Float, fin, binary32, up, down, unlike, round, neg, add, sub, mul, eq}
use Rattle.laws.proofs.Prelude.{of_bits}
use Rattle.relay_math.specs.F32.{◌⊕◌, ◌⊖◌, ◌⊗◌, 0·0, is_finite}
use Rattle.relay_math.proofs.{Signs.not_zero, Sums.{round_zero, sum_is}}

pub data IsZero : Float → Type 0 where
  none : (s : Bool) (e : ℤ) → IsZero (fin s 0 e)

-- they are what `==` takes for 0.0
pub equal : {x : Float} → IsZero x → T (eq x 0·0)
unfolding eq of_bits
equal (none true e) = rw (zero-mul (up e), zero-mul (down e)) tt
equal (none false e) = rw (zero-mul (up e), zero-mul (down e)) tt

pub is_zero : (x : Float) → T (eq x 0·0) → IsZero x
unfolding eq of_bits
is_zero (fin s zero e) h = none s e
is_zero (fin s (suc m) e) h = absurd (subst T (not_zero m e s) h)
is_zero nan h = elim h [ ]
is_zero (inf _) h = elim h [ ]

pub finite : {x : Float} → IsZero x → T (is_finite x)
unfolding is_finite
finite (none s e) = tt

rounded : (s : Bool) (c : ℕ) → IsZero (round binary32 s 0 c)
rounded s c = rw (round_zero s c) (none s (pos 0))

-- ---- products with a finite number, sums, differences

pub times : (x : Float) {y : Float} → T (is_finite x) → IsZero y → IsZero (x ⊗ y)
unfolding mul is_finite
times (fin s m e) f (none t d) = simp (zero-mul, mul-zero) (rounded (unlike s t) (down e * down d))
times nan {y = y} f _ = elim f [ ]
times (inf _) {y = y} f _ = elim f [ ]

pub by : {x : Float} (y : Float) → IsZero x → T (is_finite y) → IsZero (x ⊗ y)
unfolding mul is_finite
by (fin t n d) (none s e) f = simp zero-mul (rounded (unlike s t) (down e * down d))
by nan _ f = elim f [ ]
by (inf _) _ f = elim f [ ]

pub plus : {x y : Float} → IsZero x → IsZero y → IsZero (x ⊕ y)
unfolding add
plus (none s e) (none t d) = simp zero-mul (rw (sum_is s 0 t 0 (down e * down d) (λ h. refl) (λ h. refl)) (rounded (s && t) (down e * down d)))

pub minus : {x y : Float} → IsZero x → IsZero y → IsZero (x ⊖ y)
unfolding sub neg
minus p (none t d) = plus p (none (not t) d)
