-- A word's exponent tells whether its float is finite. Assumes nothing.
use Rattle.laws.proofs.Prelude.{◌≡◌, refl, sym, ◌∙◌, Bool, true, false, cond, inl, inr, ℕ, zero, suc, ◌+◌, ◌*◌, ◌/◌, ◌%◌, ◌<◌, arith, lt-ltb, le-ltb, eq-eqb, ne_eqb, ltb, eqb, nan, inf, binary32, odd}
use Rattle.laws.proofs.Prelude.{of_bits, le_or_lt}
use lib.Ieee.{low, of_fields}
use Rattle.relay_math.specs.F32.{is_finite}
use Rattle.words.specs.Words.{float_of}

odd_finite : (s : Bool) (q k : ℕ) → is_finite (odd 24 s q k (low binary32)) ≡ true
unfolding odd is_finite
odd_finite s zero k = refl
odd_finite s (suc q) k = refl

none_finite : (s : Bool) (z : Bool) → is_finite (cond z (inf s) nan) ≡ false
unfolding is_finite
none_finite s true = refl
none_finite s false = refl

fields_finite : (s : Bool) (x t : ℕ) → x < 256 → ltb x 255 ≡ is_finite (of_fields binary32 s x t)
unfolding of_fields
fields_finite s zero t h = sym (odd_finite s t 0)
fields_finite s (suc x) t h = elim (le_or_lt 255 (suc x)) [
  | inl l ↦ rw (le-ltb (suc x) 255 l, eq-eqb (suc x) 255 (omega arith)) (sym (none_finite s (eqb t 0)))
  | inr l ↦ rw (lt-ltb (suc x) 255 l, ne_eqb (suc x) 255 (λ e. omega arith)) (sym (odd_finite s (8388608 + t) x))
]

below : (r : ℕ) → ltb (r * 2) 4278190080 ≡ ltb (r / 8388608) 255
below r = elim (le_or_lt 4278190080 (r * 2)) [
  | inl l ↦ rw (le-ltb (r * 2) 4278190080 l, le-ltb (r / 8388608) 255 (omega arith))
  | inr l ↦ rw (lt-ltb (r * 2) 4278190080 l, lt-ltb (r / 8388608) 255 (omega arith))
]

pub finite_is : (w : ℕ) → ltb (w % 2147483648 * 2) 4278190080 ≡ is_finite (float_of w)
unfolding of_bits
finite_is w = below (w % 2147483648) ∙ fields_finite _ (w % 2147483648 / 8388608) (w % 8388608) (omega arith)
