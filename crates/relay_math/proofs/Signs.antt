-- A float against zero, and what it is written as. Assumes nothing.
use Rattle.laws.proofs.Prelude.{nan, ◌≡◌, refl, sym, subst, Bool, true, false, not, cond, ℕ, zero, suc, ◌+◌, ◌*◌, ◌^◌, ◌<◌, mul-pos, zero-lt-suc, arith, lt-ltb, le-ltb, ne_eqb, ℤ, pos, T, leb, ltb, Float}
use Rattle.laws.proofs.Prelude.{inf, fin, binary32, fits, is_nan, up, down, round, units, odd, lt, le, eq}
use lib.Ieee.{Back.whole_unique, Exact.HasValue, Fits.{up_pos, round_is}, Positive.positive}
use Rattle.laws.proofs.Tests.{ordered}
use Rattle.relay_math.specs.Steps.{Zero}
use Rattle.relay_math.proofs.Order.{le_right, le_of_lt}

-- ---- a zero is written in one way, and another number is on the side of its sign

pub zero_is : (s : Bool) (e : ℤ) → T (fits binary32 (fin s 0 e)) → fin s 0 e ≡ fin s 0 (pos 0)
unfolding fits
zero_is s e f = whole_unique binary32 (fin s 0 e) (fin s 0 (pos 0)) s 0 f tt (refl, omega arith) (refl, refl)

module _ (m : ℕ) (e : ℤ) where
  pub size_pos : 0 < suc m * up e
  size_pos = mul-pos (zero-lt-suc m) (up_pos e)

  pub is_below : (s : Bool) → lt (fin s (suc m) e) Zero ≡ s
  unfolding lt
  is_below true = lt-ltb 0 (suc m * up e * 1 + 0 * down e) (omega (arith, size_pos))
  is_below false = le-ltb (suc m * up e * 1) (0 * down e) (omega arith)

  pub is_above : (s : Bool) → lt Zero (fin s (suc m) e) ≡ not s
  unfolding lt
  is_above true = refl
  is_above false = lt-ltb (0 * down e) (suc m * up e * 1) (omega (arith, size_pos))

  pub not_zero : (s : Bool) → eq (fin s (suc m) e) Zero ≡ false
  unfolding eq
  not_zero s = rw (ne_eqb (suc m * up e * 1) (0 * down e) (λ z. omega (arith, size_pos, z)))

pub not_nan : (x : Float) → lt Zero x ≡ true → T (not (is_nan x))
not_nan x t = le_right Zero x (le_of_lt Zero x t)

pub le_is : (m : ℕ) (e : ℤ) (n : ℕ) (d : ℤ) → le (fin false m e) (fin false n d) ≡ leb (m * up e * down d) (n * up d * down e)
unfolding le lt eq
le_is m e n d = ordered (m * up e * down d) (n * up d * down e)

-- ---- what a float is written as: a positive one, one of the value a / c, one that was rounded
pub of_positive : (P : Float → Type 0) → ((m : ℕ) (e : ℤ) → T (fits binary32 (fin false (suc m) e)) → P (fin false (suc m) e)) → (x : Float) → T (fits binary32 x) → T (positive x) → P x
of_positive P h (fin false (suc m) e) f p = h m e f
of_positive P h nan f p = elim p [ ]
of_positive P h (inf _) f p = elim p [ ]
of_positive P h (fin false zero e) f p = elim p [ ]
of_positive P h (fin true _ e) f p = elim p [ ]

pub of_value : (P : Float → Type 0) (s : Bool) (a c : ℕ) → ((m : ℕ) (e : ℤ) → HasValue (fin s m e) s a c → P (fin s m e)) → (x : Float) → HasValue x s a c → P x
of_value P s a c h (fin t m e) v = subst (λ (t : Bool). HasValue (fin t m e) s a c → P (fin t m e)) (sym v.0) (h m e) v
of_value P s a c h nan v = elim v [ ]
of_value P s a c h (inf _) v = elim v [ ]

of_units : (P : Float → Type 0) (s : Bool) → ((m : ℕ) (e : ℤ) → P (fin s m e)) → P (inf s) → (q k : ℕ) → P (units binary32 s q k)
unfolding units odd
of_units P s f i q k = by (ltb (q * 2 ^ k) (2 ^ 277)) q
  where
    by : (t : Bool) (q : ℕ) → P (cond t (odd 25 s q k 149) (inf s))
    by false q = i
    by true zero = f _ _
    by true (suc q) = f _ _

pub of_rounded : (P : Float → Type 0) (s : Bool) → ((m : ℕ) (e : ℤ) → P (fin s m e)) → P (inf s) → (a c : ℕ) → P (round binary32 s a c)
of_rounded P s f i a c = rw (round_is binary32 s a c) (of_units P s f i _ _)
