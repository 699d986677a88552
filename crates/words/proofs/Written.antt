-- Laws of written words, for callers: runs join, other bytes stay, and neither a buffer written whole nor a run written over depends on what was there. Assumes nothing.
use Rattle.laws.proofs.Prelude.{◌≡◌, refl, ap, subst, ◌∙◌, ◌⊎◌, inl, inr, ⊎_elim, List, [], ◌∷◌, ◌++◌, append-nil, ℕ, suc, ◌+◌, ◌*◌, ◌%◌, ◌≤◌, ◌<◌, add-zero, add_assoc, add-one, arith, length, get_or}
use Rattle.laws.proofs.Prelude.{set, take, drop, length-append, List·getD-append, sets, sets-eq, length-take-le, get_or-append-add}
use lib.{ListN.drop_of_length-le, Seq.{set-set, set_comm, take-suc, take-add, get_or-set_other}}
use Rattle.words.specs.Words.{word, bytes_of, Put}
use Rattle.words.proofs.WordsBack.{word_bytes_of}

pub length_bytes_of : (ws : List ℕ) → length (bytes_of ws) ≡ 4 * length ws
length_bytes_of [] = refl
length_bytes_of (w ∷ ws) = omega (arith, length_bytes_of ws)

pub bytes_of_append : (a b : List ℕ) → bytes_of (a ++ b) ≡ bytes_of a ++ bytes_of b
bytes_of_append [] b = refl
bytes_of_append (w ∷ a) b = rw (bytes_of_append a b)

pub sets_append : (b : List ℕ) (i : ℕ) (u v : List ℕ) → sets (sets b i u) (i + length u) v ≡ sets b i (u ++ v)
sets_append b i [] v = rw add-zero
sets_append b i (x ∷ u) v =
    let e : i + suc (length u) ≡ suc i + length u = omega arith in
    rw e (sets_append _ (suc i) u v)

-- one byte more of a run
pub one_more : (b : List ℕ) (at : ℕ) (from : List ℕ) (i : ℕ) → i < length from → set (sets b at (take i from)) (at + i) (get_or from i 0) ≡ sets b at (take (i + 1) from)
one_more b at from i h =
    let e : at + i ≡ at + length (take i from) = rw (length-take-le i from (omega arith)) in
    rw (e, add-one i, take-suc from i 0 h) (sets_append b at (take i from) (get_or from i 0 ∷ []))

-- so many more: u over the p that has the first i
pub run_more : (b : List ℕ) (at : ℕ) (from : List ℕ) (i n : ℕ) {u p q : List ℕ} → i ≤ length from → u ≡ take n (drop i from) → p ≡ sets b at (take i from) → q ≡ sets p (at + i) u
    → q ≡ sets b at (take (i + n) from)
run_more b at from i n h e f g =
    let k : at + i ≡ at + length (take i from) = rw (length-take-le i from h) in
    rw (g, f, e, k, take-add i n from) (sets_append b at (take i from) (take n (drop i from)))

-- four stores side by side
pub stores : (b : List ℕ) (i w x y z : ℕ) → set (set (set (set b i w) (i + 1) x) (i + 2) y) (i + 3) z ≡ sets b i (w ∷ x ∷ y ∷ z ∷ [])
stores b i w x y z =
    let one : i + 1 ≡ suc i = omega arith in let two : i + 2 ≡ suc (suc i) = omega arith in
    let three : i + 3 ≡ suc (suc (suc i)) = omega arith in
    rw (one, two, three)

-- one run after another is one run
pub then : {b s t : List ℕ} {k j : ℕ} {u v : List ℕ} → Put b k u s → Put s j v t → j ≡ k + length u → Put b k (u ++ v) t
then {b} {s} {t} {k} {j} {u} {v} p q h =
    let e : 4 * j ≡ 4 * k + length (bytes_of u) = omega (arith, length_bytes_of u) in
    record { is = q.is ∙ rw (p.is, e, bytes_of_append u v) (sets_append b (4 * k) (bytes_of u) (bytes_of v)) }

-- what stands before, the words, what stands after
pub put_splits : {b t : List ℕ} {k : ℕ} {ws : List ℕ} → Put b k ws t → 4 * k + 4 * length ws ≤ length b
    → t ≡ take (4 * k) b ++ bytes_of ws ++ drop (4 * k + length (bytes_of ws)) b
put_splits {b} {t} {k} {ws} p h = p.is ∙ sets-eq (bytes_of ws) b (4 * k) (omega (arith, length_bytes_of ws))

-- a buffer written whole no longer depends on what it held
pub over_all : (b vs : List ℕ) → length b ≡ length vs → sets b 0 vs ≡ vs
over_all b vs h =
    let n : length b ≤ 0 + length vs = omega arith in
    sets-eq vs b 0 (omega arith) ∙ rw (drop_of_length-le b n) (append-nil vs)

pub whole : {b t : List ℕ} {ws : List ℕ} → Put b 0 ws t → length b ≡ 4 * length ws → t ≡ bytes_of ws
whole {b} {t} {ws} p h = p.is ∙ over_all b (bytes_of ws) (omega (arith, length_bytes_of ws))

-- ---- a run over another of its length: what that held is gone

set_before : (u b : List ℕ) (i j x : ℕ) → j < i → set (sets b i u) j x ≡ sets (set b j x) i u
set_before [] b i j x h = refl
set_before (a ∷ u) b i j x h = set_before u (set b i a) (suc i) j x (omega arith) ∙ ap (λ (l : List ℕ). sets l (suc i) u) (set_comm b i j a x (λ e. omega arith))

sets_over : (u v b : List ℕ) (i : ℕ) → length u ≡ length v → sets (sets b i u) i v ≡ sets b i v
sets_over [] [] b i h = refl
sets_over [] (y ∷ v) b i h = let n : ⊥ = omega arith in absurd n
sets_over (x ∷ u) [] b i h = let n : ⊥ = omega arith in absurd n
sets_over (x ∷ u) (y ∷ v) b i h =
    ap (λ (l : List ℕ). sets l (suc i) v) (set_before u (set b i x) (suc i) i y (omega arith) ∙ ap (λ (l : List ℕ). sets l (suc i) u) (set-set b i x y))
    ∙ sets_over u v (set b i y) (suc i) (omega arith)

pub put_over : {b s t : List ℕ} {k : ℕ} {u v : List ℕ} → Put b k u s → Put s k v t → length u ≡ length v → Put b k v t
put_over {b} {s} {t} {k} {u} {v} p q h = record { is = q.is ∙ rw p.is (sets_over (bytes_of u) (bytes_of v) b (4 * k) (omega (arith, length_bytes_of u, length_bytes_of v))) }

-- ---- byte by byte and word by word

pub sets_other : (vs b : List ℕ) (n i : ℕ) → (i < n) ⊎ (n + length vs ≤ i) → get_or (sets b n vs) i 0 ≡ get_or b i 0
sets_other [] b n i h = refl
sets_other (v ∷ vs) b n i h =
    sets_other vs (set b n v) (suc n) i (⊎_elim (λ l. inl (omega arith)) (λ r. inr (omega arith)) h)
    ∙ get_or-set_other b n i v 0 (λ e. ⊎_elim (λ l. omega arith) (λ r. omega arith) h)

-- byte i of the run is the words'
put_byte : {b t : List ℕ} {k : ℕ} {ws : List ℕ} → Put b k ws t → 4 * k + 4 * length ws ≤ length b → (i : ℕ) → i < 4 * length ws
    → get_or t (4 * k + i) 0 ≡ get_or (bytes_of ws) i 0
put_byte {b} {t} {k} {ws} p h i l =
    let front = take (4 * k) b in
    let e : length front ≡ 4 * k = length-take-le (4 * k) b (omega arith) in
    let m : 4 * k + i < length (front ++ bytes_of ws) = omega (arith, e, length-append front (bytes_of ws), length_bytes_of ws) in
    ap (λ (l : List ℕ). get_or l (4 * k + i) 0) (put_splits p h)
    ∙ List·getD-append (front ++ bytes_of ws) (drop (4 * k + length (bytes_of ws)) b) 0 (4 * k + i) m
    ∙ subst (λ (n : ℕ). get_or (front ++ bytes_of ws) (n + i) 0 ≡ get_or (bytes_of ws) i 0) e (get_or-append-add front (bytes_of ws) i 0)

-- word i of the run is the i-th of the words
pub put_word : {b t : List ℕ} {k : ℕ} {ws : List ℕ} → Put b k ws t → 4 * k + 4 * length ws ≤ length b → (i : ℕ) → i < length ws
    → word t (k + i) ≡ get_or ws i 0 % 4294967296
unfolding word
put_word {b} {t} {k} {ws} p h i l =
    let at : (j : ℕ) → j < 4 → get_or t (4 * k + (4 * i + j)) 0 ≡ get_or (bytes_of ws) (4 * i + j) 0 = λ j m. put_byte p h (4 * i + j) (omega arith) in
    let e : 4 * (k + i) ≡ 4 * k + 4 * i = omega arith in let z : 4 * i + 0 ≡ 4 * i = omega arith in
    let none : get_or t (4 * k + 4 * i) 0 ≡ get_or (bytes_of ws) (4 * i) 0 = rw z at (at 0 (omega arith)) in
    rw (e, add_assoc (4 * k) (4 * i) 1, add_assoc (4 * k) (4 * i) 2, add_assoc (4 * k) (4 * i) 3, none, at 1 (omega arith), at 2 (omega arith), at 3 (omega arith))
    (word_bytes_of ws i)
