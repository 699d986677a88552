-- A word that is passed on, by the float x that it was read as: itself if that is finite, else 0. Assumes nothing.
use Rattle.laws.proofs.Prelude.{◌≡◌, true, false, ℕ, ◌<◌, Float, of_bits, to_bits, held}
use Rattle.relay_math.{specs.F32.is_finite, proofs.Order.finite_number}
use Rattle.words.{specs.Words.float_of, proofs.WordsBack.canon_itself}
use Rattle.image.specs.Passed.{passed_on}

pub finite_itself : (w : ℕ) {x : Float} → w < 4294967296 → x ≡ float_of w → is_finite x ≡ true → passed_on w ≡ w
unfolding passed_on
finite_itself w h e f = let n : is_finite (float_of w) ≡ true = rw (← e) f in rw n (canon_itself w h (finite_number (float_of w) (held n)))

pub other_zero : (w : ℕ) {x : Float} → x ≡ float_of w → is_finite x ≡ false → passed_on w ≡ 0
unfolding passed_on of_bits to_bits
other_zero w e f = let n : is_finite (float_of w) ≡ false = rw (← e) f in rw n
