-- Laws of canonical words, for callers: where no word is a NaN's pattern they stand so; made one after the other they are all made; and a run that is
-- written over bytes of words takes the place of some of the words. Assumes nothing.
use Rattle.laws.proofs.Prelude.{◌≡◌, refl, sym, ap, ◌∙◌, inr, true, List, [], ◌∷◌, ◌++◌, ℕ, zero, suc, ◌+◌, ◌*◌, ◌/◌, ◌%◌, ◌≤◌, ◌<◌, add-zero, zero-add, add-one, arith, length, get_or, take, drop}
use native.Mathlib.Numerals.{add-two, add-three}
use lib.Seq.{set-get_or}
use Rattle.std.proofs.Common.{drop-cons}
use Rattle.words.specs.{Words.{four_bytes, word, bytes_of, canon, canons, Put, Holds}, Inner.Plain}
use Rattle.words.proofs.{WordsBack.canon_itself, Written.{length_bytes_of, bytes_of_append, put_splits, sets_other, then, whole}}

-- every byte is one, as of a lent [u8]
abbrev pub Bytes : List ℕ → Type 0
Bytes b = (i : ℕ) → get_or b i 0 < 256

-- ---- words that stand

-- the bytes of a word are those it was read from
bytes_back : (a c d e : ℕ) → a < 256 → c < 256 → d < 256 → e < 256 → let w = a + c * 256 + d * 65536 + e * 16777216 in
    (w % 256 ≡ a) × (w / 256 % 256 ≡ c) × (w / 65536 % 256 ≡ d) × (w / 16777216 % 256 ≡ e)
bytes_back a c d e ha hc hd he = (omega arith, omega arith, omega arith, omega arith)

-- four bytes side by side, as the word that they are
pub four_stands : (b : List ℕ) (i : ℕ) {w : ℕ} → Bytes b → i + 4 ≤ length b → w ≡ four_bytes b i → bytes_of (w ∷ []) ≡ take 4 (drop i b)
four_stands b i {w} h l e =
    let v = bytes_back (get_or b i 0) (get_or b (i + 1) 0) (get_or b (i + 2) 0) (get_or b (i + 3) 0) (h i) (h (i + 1)) (h (i + 2)) (h (i + 3)) in
    let at : (j : ℕ) → j < i + 4 → drop j b ≡ get_or b j 0 ∷ drop (suc j) b = λ j m. drop-cons b j 0 (omega arith) in
    rw (e, v.0, v.1, v.2, v.3, add-one i, add-two i, add-three i, at i (omega arith), at (suc i) (omega arith), at (suc (suc i)) (omega arith), at (suc (suc (suc i))) (omega arith))

pub word_stands : (b : List ℕ) (k : ℕ) → Bytes b → Put b k (word b k ∷ []) b
unfolding word
word_stands b k h =
    let i = 4 * k in
    let w = bytes_back (get_or b i 0) (get_or b (i + 1) 0) (get_or b (i + 2) 0) (get_or b (i + 3) 0) (h i) (h (i + 1)) (h (i + 2)) (h (i + 3)) in
    record { is = sym (rw (w.0, w.1, w.2, w.3, add-one i, add-two i, add-three i, set-get_or b i 0, set-get_or b (suc i) 0, set-get_or b (suc (suc i)) 0) (set-get_or b (suc (suc (suc i))) 0)) }

word_lt : (b : List ℕ) (k : ℕ) → Bytes b → word b k < 4294967296
unfolding word
word_lt b k h = omega (arith, h (4 * k), h (4 * k + 1), h (4 * k + 2), h (4 * k + 3))

canons_stand : (b : List ℕ) (k n : ℕ) → Bytes b → Plain true b → 4 * (k + n) ≤ length b → Put b k (canons b k n) b
canons_stand b k zero h p l = record { is = refl }
canons_stand b k (suc n) h p l =
    let one = rw (sym (canon_itself (word b k) (word_lt b k h) (p k (omega arith)))) at (word_stands b k h) in
    then {u = canon (word b k) ∷ []} one (canons_stand b (suc k) n h p (omega arith)) (sym (add-one k))

pub length_canons : (b : List ℕ) (k n : ℕ) → length (canons b k n) ≡ n
length_canons b k zero = refl
length_canons b k (suc n) = ap suc (length_canons b (suc k) n)

-- where no word is a NaN's pattern, the canonical words are those that stand
pub all_stand : (b : List ℕ) (n : ℕ) → Bytes b → Plain true b → length b ≡ 4 * n → b ≡ bytes_of (canons b 0 n)
all_stand b n h p l = whole (canons_stand b 0 n h p (omega arith)) (omega (arith, length_canons b 0 n))

-- ---- words made canonical one after the other

canons_more : (b : List ℕ) (k n : ℕ) → canons b k n ++ canon (word b (k + n)) ∷ [] ≡ canons b k (suc n)
canons_more b k zero = rw (add-zero k)
canons_more b k (suc n) =
    let e : k + suc n ≡ suc k + n = omega arith in
    ap (λ (ws : List ℕ). canon (word b k) ∷ ws) (rw e (canons_more b (suc k) n))

-- a word behind those that were written is as it was
word_behind : {b t : List ℕ} (n : ℕ) → Put b 0 (canons b 0 n) t → word t n ≡ word b n
unfolding word
word_behind {b} {t} n p =
    let l = length_bytes_of (canons b 0 n) in let m = length_canons b 0 n in
    let at : (i : ℕ) → 4 * n ≤ i → get_or t i 0 ≡ get_or b i 0 = λ i h. ap (λ (l : List ℕ). get_or l i 0) p.is ∙ sets_other (bytes_of (canons b 0 n)) b 0 i (inr (omega arith)) in
    rw (at (4 * n) (omega arith), at (4 * n + 1) (omega arith), at (4 * n + 2) (omega arith), at (4 * n + 3) (omega arith))

pub one_more_canonical : {b s t : List ℕ} (n : ℕ) → Put b 0 (canons b 0 n) s → Put s n (canon (word s n) ∷ []) t → Put b 0 (canons b 0 (suc n)) t
one_more_canonical {b} {s} {t} n p q =
    let e : n ≡ 0 + length (canons b 0 n) = omega (arith, length_canons b 0 n) in
    let more : canons b 0 n ++ canon (word b n) ∷ [] ≡ canons b 0 (suc n) = rw zero-add at (canons_more b 0 n) in
    rw (word_behind n p, more) at (then p q e)

-- ---- a run over bytes of words

take_bytes : (ws : List ℕ) (k : ℕ) → take (4 * k) (bytes_of ws) ≡ bytes_of (take k ws)
take_bytes ws zero = refl
take_bytes [] (suc k) = let e : 4 * suc k ≡ suc (suc (suc (suc (4 * k)))) = omega arith in rw e
take_bytes (w ∷ ws) (suc k) =
    let e : 4 * suc k ≡ suc (suc (suc (suc (4 * k)))) = omega arith in
    rw (e, take_bytes ws k)

drop_bytes : (ws : List ℕ) (k : ℕ) → drop (4 * k) (bytes_of ws) ≡ bytes_of (drop k ws)
drop_bytes ws zero = refl
drop_bytes [] (suc k) = let e : 4 * suc k ≡ suc (suc (suc (suc (4 * k)))) = omega arith in rw e
drop_bytes (w ∷ ws) (suc k) =
    let e : 4 * suc k ≡ suc (suc (suc (suc (4 * k)))) = omega arith in
    rw (e, drop_bytes ws k)

pub put_holds : {b ws t : List ℕ} {k : ℕ} {vs : List ℕ} → Holds b ws → Put b k vs t → k + length vs ≤ length ws → Holds t (take k ws ++ vs ++ drop (k + length vs) ws)
put_holds {b} {ws} {t} {k} {vs} h p l =
    let n = length vs in
    let e : 4 * k + length (bytes_of vs) ≡ 4 * (k + n) = omega (arith, length_bytes_of vs) in
    let m : 4 * k + 4 * n ≤ length b = omega (arith, ap length h.is, length_bytes_of ws) in
    record {
      is =
          put_splits p m
          ∙ rw (h.is, e, take_bytes ws k, drop_bytes ws (k + n), bytes_of_append (take k ws ++ vs) (drop (k + n) ws), bytes_of_append (take k ws) vs);
    }
