-- Lists that are repeated, and runs of them in a buffer. Assumes nothing.
use Rattle.laws.proofs.Prelude.{◌≡◌, refl, sym, ap, subst, ◌∙◌, List, [], ◌∷◌, ◌++◌, append_assoc, append-nil, map, map-append, ℕ, zero, suc, ◌+◌, ◌-◌, ◌*◌, ◌≤◌, ◌<◌, zero-mul, add_comm, arith}
use Rattle.laws.proofs.Prelude.{length, get_or, set, take, drop, length-append, take-append-drop, List·getD-append, sets, sets-eq, slice, length-slice, length-take-le, take-take, take_at, drop_at}
use Rattle.laws.proofs.Prelude.{get_or-append-add}
use native.Mathlib.Nat.{suc-mul}
use lib.Seq.{set-set, set_comm}
use Rattle.words.proofs.Written.{sets_append}
use Rattle.pattern.specs.Tree.{times}

-- ---- a list so many times

pub length_times : {A : Type 0} (n : ℕ) (l : List A) → length (times n l) ≡ n * length l
unfolding times
length_times zero l = sym (zero-mul (length l))
length_times (suc n) l = length-append l (times n l) ∙ ap (λ (k : ℕ). length l + k) (length_times n l) ∙ (add_comm (length l) (n * length l) ∙ sym (suc-mul n (length l)))

pub map_times : {A B : Type 0} (f : A → B) (n : ℕ) (l : List A) → map f (times n l) ≡ times n (map f l)
unfolding times
map_times f zero l = refl
map_times {B = B} f (suc n) l = map-append f l (times n l) ∙ ap (λ (r : List B). map f l ++ r) (map_times f n l)

-- the round more may stand last
times_last : {A : Type 0} (n : ℕ) (l : List A) → times (suc n) l ≡ times n l ++ l
unfolding times
times_last zero l = append-nil l
times_last {A = A} (suc n) l = ap (λ (r : List A). l ++ r) (times_last n l) ∙ sym (append_assoc l (times n l) l)

-- each element of a round is that of the round before
pub round_before : (n : ℕ) (l : List ℕ) (i : ℕ) → length l + i < n * length l → get_or (times n l) (length l + i) 0 ≡ get_or (times n l) i 0
unfolding times
round_before zero l i h = absurd (omega (arith, h, zero-mul (length l)))
round_before (suc n) l i h =
    let few : i < length (times n l) = omega (arith, h, suc-mul n (length l), length_times n l) in
    get_or-append-add l (times n l) i 0 ∙ sym (ap (λ (r : List ℕ). get_or r i 0) (times_last n l) ∙ List·getD-append (times n l) l 0 i few)

-- ---- a run in a buffer

pub run_get : (b : List ℕ) (n : ℕ) (vs : List ℕ) (i : ℕ) → n + length vs ≤ length b → i < length vs → get_or (sets b n vs) (n + i) 0 ≡ get_or vs i 0
run_get b n vs i h l =
    let front = take n b in
    let e : length front ≡ n = length-take-le n b (omega arith) in
    let m : n + i < length (front ++ vs) = omega (arith, e, length-append front vs) in
    ap (λ (r : List ℕ). get_or r (n + i) 0) (sets-eq vs b n h)
    ∙ List·getD-append (front ++ vs) (drop (n + length vs) b) 0 (n + i) m
    ∙ subst (λ (k : ℕ). get_or (front ++ vs) (k + i) 0 ≡ get_or vs i 0) e (get_or-append-add front vs i 0)

pub run_slice : (b : List ℕ) (n : ℕ) (vs : List ℕ) → n + length vs ≤ length b → slice n (n + length vs) (sets b n vs) ≡ vs
run_slice b n vs h =
    let front = take n b in
    let e : length front ≡ n = length-take-le n b (omega arith) in
    let m : length (front ++ vs) ≡ n + length vs = omega (arith, e, length-append front vs) in
    ap (slice n (n + length vs)) (sets-eq vs b n h)
    ∙ ap (drop n) (take_at (front ++ vs) (drop (n + length vs) b) (n + length vs) m)
    ∙ drop_at front vs n e

-- what stands there already changes nothing
pub own_run : (b : List ℕ) (n m : ℕ) → n ≤ m → m ≤ length b → sets b n (slice n m b) ≡ b
own_run b n m h k =
    let e : length (slice n m b) ≡ m - n = length-slice n m b k in let f : n + length (slice n m b) ≡ m = omega arith in
    sets-eq (slice n m b) b n (omega arith)
    ∙ rw (f, ← take-take n m b h, take-append-drop n (take m b)) (take-append-drop m b)

set_below : (vs b : List ℕ) (n i a : ℕ) → i < n → set (sets b n vs) i a ≡ sets (set b i a) n vs
set_below [] b n i a h = refl
set_below (v ∷ vs) b n i a h =
    set_below vs (set b n v) (suc n) i a (omega arith) ∙ ap (λ (c : List ℕ). sets c (suc n) vs) (set_comm b n i v a (λ e. omega arith))

run_twice : (vs b : List ℕ) (n : ℕ) → sets (sets b n vs) n vs ≡ sets b n vs
run_twice [] b n = refl
run_twice (v ∷ vs) b n =
    ap (λ (c : List ℕ). sets c (suc n) vs) (set_below vs (set b n v) (suc n) n v (omega arith) ∙ ap (λ (c : List ℕ). sets c (suc n) vs) (set-set b n v v))
    ∙ run_twice vs (set b n v) (suc n)

-- rounds over the first of them
pub rounds_over : (n : ℕ) (vs b : List ℕ) (i : ℕ) → 1 ≤ n → sets (sets b i vs) i (times n vs) ≡ sets b i (times n vs)
unfolding times
rounds_over zero vs b i h = absurd (omega arith)
rounds_over (suc n) vs b i h =
    sym (sets_append (sets b i vs) i vs (times n vs)) ∙ ap (λ (c : List ℕ). sets c (i + length vs) (times n vs)) (run_twice vs b i) ∙ sets_append b i vs (times n vs)

pub first_round : (n : ℕ) (l : List ℕ) → 1 ≤ n → take (length l) (times n l) ≡ l
unfolding times
first_round zero l h = absurd (omega arith)
first_round (suc n) l h = take_at l (times n l) (length l) refl

pub at_least : (n m : ℕ) → 1 ≤ n → m ≤ n * m
at_least zero m h = absurd (omega arith)
at_least (suc n) m h = omega (arith, suc-mul n m)
