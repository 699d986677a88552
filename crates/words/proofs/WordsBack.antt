-- Laws of read words, for callers: what was written is read again, and what is read is written again but for a NaN's other patterns. Assumes nothing.
use Rattle.laws.proofs.Prelude.{◌≡◌, refl, sym, ap, ◌∙◌, Bool, true, false, not, List, [], ◌∷◌, ◌++◌, ℕ, zero, suc, ◌+◌, ◌*◌, ◌/◌, ◌%◌, ◌<◌, add-zero, add_assoc, mod-eq_of_lt, arith, T, eqb}
use Rattle.laws.proofs.Prelude.{ltb, lit<, length, get_or, take, drop, get_or-take, get_or-drop, get_or-append-add, Float, nan, binary32, is_nan, fits}
use native.Mathlib.Nat.{suc-add}
use lib.{Dec.ltb→lt, Ieee.{Fits.nan-fits, Bits.{of_bits-to_bits, to_bits-lt, to_bits-of_bits, of_bits-fits}}}
use Rattle.relay_math.specs.declared.Vec3.{Vec3}
use Rattle.words.specs.Words.{four_bytes, word, float, vec, floats_of_vec, float_of, bits, canon, flag, words_of, bytes_of, AllFit, Holds}

-- four bytes by weight are the word, below 2 ^ 32
four : (w : ℕ) → w % 256 + w / 256 % 256 * 256 + w / 65536 % 256 * 65536 + w / 16777216 % 256 * 16777216 ≡ w % 4294967296
four w = omega arith

-- the word at place k of written words is the k-th of them, and 0 past their end
pub word_bytes_of : (ws : List ℕ) (k : ℕ) → word (bytes_of ws) k ≡ get_or ws k 0 % 4294967296
unfolding word
word_bytes_of [] k = refl
word_bytes_of (w ∷ ws) zero = four w
word_bytes_of (w ∷ ws) (suc k) =
    let e : 4 * suc k ≡ suc (suc (suc (suc (4 * k)))) = omega arith in
    simp (e, suc-add) (word_bytes_of ws k)

-- a word that stands past the first of two lists is the second's
pub four_after : (a b : List ℕ) (i : ℕ) → four_bytes (a ++ b) (length a + i) ≡ four_bytes b i
four_after a b i =
    let n = length a in
    rw (add_assoc n i 1, add_assoc n i 2, add_assoc n i 3, get_or-append-add a b i 0, get_or-append-add a b (i + 1) 0, get_or-append-add a b (i + 2) 0, get_or-append-add a b (i + 3) 0)

-- every word of an f32 is one of 32 bits
pub bits_lt : (x : Float) → T (fits binary32 x) → bits x < 4294967296
bits_lt x h = to_bits-lt binary32 x h

-- what is read fits
pub float_fits : (b : List ℕ) (k : ℕ) → T (fits binary32 (float b k))
unfolding float
float_fits b k = of_bits-fits binary32 (word b k)

-- a word that is no NaN's pattern is its own canonical word
pub canon_itself : (w : ℕ) → w < 4294967296 → T (not (is_nan (float_of w))) → canon w ≡ w
canon_itself w h n = to_bits-of_bits binary32 w h n

-- a flag that was written is read again
pub flag_back : (b : Bool) → eqb (flag b) 1 ≡ b
flag_back true = refl
flag_back false = refl

pub flag_lt : (b : Bool) → flag b < 4294967296
flag_lt true = lit< tt
flag_lt false = lit< tt

all_fit : (xs : List Float) → AllFit xs → (i : ℕ) → i < length xs → T (fits binary32 (get_or xs i nan))
all_fit [] f i h = nan-fits binary32
all_fit (x ∷ xs) f zero h = f.0
all_fit (x ∷ xs) f (suc i) h = all_fit xs f.1 i (omega arith)

word_of : (xs : List Float) (i : ℕ) → i < length xs → get_or (words_of xs) i 0 ≡ bits (get_or xs i nan)
word_of [] i h = omega arith
word_of (x ∷ xs) zero h = refl
word_of (x ∷ xs) (suc i) h = word_of xs i (omega arith)

-- ---- bytes b that are the bytes of words ws

module _ {b ws : List ℕ} (e : Holds b ws) where
  pub word_back : (k : ℕ) {w : ℕ} → get_or ws k 0 ≡ w → w < 4294967296 → word b k ≡ w
  word_back k {w} held h = ap (λ (l : List ℕ). word l k) e.is ∙ word_bytes_of ws k ∙ rw held (mod-eq_of_lt h)

  -- a float that was written is read again
  pub float_back : (k : ℕ) (x : Float) → get_or ws k 0 ≡ bits x → T (fits binary32 x) → float b k ≡ x
  unfolding float
  float_back k x held h = ap float_of (word_back k held (bits_lt x h)) ∙ of_bits-to_bits binary32 x h

  -- and so is a run of floats, of any length at any place
  pub floats_back : (k : ℕ) (xs : List Float) → take (length xs) (drop k ws) ≡ words_of xs → AllFit xs
      → (i : ℕ) → T (ltb i (length xs)) → float b (k + i) ≡ get_or xs i nan
  floats_back k xs held f i h =
      let l = ltb→lt i (length xs) h in
      float_back (k + i) (get_or xs i nan)
      (sym (get_or-drop k ws i 0) ∙ sym (get_or-take (length xs) (drop k ws) i 0 l) ∙ ap (λ (v : List ℕ). get_or v i 0) held ∙ word_of xs i l)
      (all_fit xs f i l)

  -- the first of them
  pub first_back : (k : ℕ) (xs : List Float) → take (length xs) (drop k ws) ≡ words_of xs → AllFit xs → T (ltb 0 (length xs)) → float b k ≡ get_or xs 0 nan
  first_back k xs held f h = rw add-zero at (floats_back k xs held f 0 h)

  pub vec_back : (k : ℕ) (v : Vec3) → take 3 (drop k ws) ≡ words_of (floats_of_vec v) → AllFit (floats_of_vec v) → vec b k ≡ v
  unfolding vec
  vec_back k v held f =
      let at = floats_back k (floats_of_vec v) held f in
      simp (first_back k (floats_of_vec v) held f tt, at 1 tt, at 2 tt)

  -- the word of a float
  pub bits_back : (k : ℕ) (x : Float) → get_or ws k 0 ≡ bits x → T (fits binary32 x) → word b k ≡ bits x
  bits_back k x held h = word_back k held (bits_lt x h)
