-- "Expanding writes a route of One's form": the check of a route tick finds nothing to refuse in what is written. Assumes nothing.
use Rattle.laws.proofs.Prelude.{◌≡◌, refl, sym, ap, subst, ◌∙◌, true, false, List, [], ◌∷◌, ◌++◌, append_assoc, ℕ, zero, suc, ◌+◌, ◌-◌, ◌*◌, ◌≤◌, ◌<◌, add_assoc, mod-eq_of_lt, le_of_suc-le-suc}
use Rattle.laws.proofs.Prelude.{add-one, arith, le-ltb, eq-eqb, ne_eqb, ltb-false, eqb-false, not-false, length, get_or, take, drop, length-append, List·getD-append, sets, sets-eq, drop_at}
use Rattle.laws.proofs.Prelude.{get_or-append-add, no, both}
use Rattle.words.{specs.Words.{four_bytes, word, float, float_of, vec, bytes_of as word_bytes}, proofs.WordsBack.{four_after, word_bytes_of}}
use Rattle.image.specs.{Layout.leg_bytes, Parts.leg_at}
use Rattle.outcome.{specs.{Outcomes.{Done, is_done, left}}, proofs.Tables.{done_none, refused_keeps, either}}
use Rattle.route.{specs.Form.{route_trailer_bytes, most_legs, leg_count, back_of, leg_of, legs_meet, form_refusal, all_meet as routeMeets}, proofs.Joins.joins_say}
use Rattle.pattern.specs.{Tree.{Pattern, flown_legs, times, repeat, pattern_bytes, WithinLimits}, Read.{Read, broken, is, read}}
use Rattle.pattern.specs.Entry.{DEEPEST, joined, route_length, route_of, flown_meet, legs_read, legs_of, expand_table, expand_refusal, buffers, Expanded, with_route, expand_call, expanded_call}
use Rattle.pattern.proofs.{Runs.run_slice, Long.{AllLong, Long, long_read}, ExpandCall.expanded, ReadBack.reads_back}

-- ---- the trailer

joined_length : (ls : List (List ℕ)) → AllLong ls → length (joined ls) ≡ leg_bytes * length ls
unfolding joined
joined_length [] a = refl
joined_length (l ∷ ls) a = omega (arith, length-append l (joined ls), a.0, joined_length ls a.1)

module _ (ls : List (List ℕ)) (a : AllLong ls) where
  abbrev trailer : List ℕ
  trailer = length ls ∷ leg_bytes * length ls ∷ []

  pub route_length_lem : length (route_of ls) ≡ route_length (length ls)
  unfolding route_of
  route_length_lem = omega (arith, length-append (joined ls) (word_bytes trailer), joined_length ls a)

  module _ (few : length ls ≤ most_legs) where
    count_back : leg_count (route_of ls) ≡ length ls
    unfolding leg_count route_of word
    count_back =
        let at : length (route_of ls) - route_trailer_bytes ≡ length (joined ls) + 0 = omega (arith, length-append (joined ls) (word_bytes trailer)) in
        ap (four_bytes (route_of ls)) at ∙ four_after (joined ls) (word_bytes trailer) 0 ∙ word_bytes_of trailer 0 ∙ mod-eq_of_lt (omega arith)

    back_back : back_of (route_of ls) ≡ leg_bytes * length ls
    unfolding back_of route_of word
    back_back =
        let at : length (route_of ls) - 4 ≡ length (joined ls) + 4 = omega (arith, length-append (joined ls) (word_bytes trailer)) in
        ap (four_bytes (route_of ls)) at ∙ four_after (joined ls) (word_bytes trailer) 4 ∙ word_bytes_of trailer 1 ∙ mod-eq_of_lt (omega arith)

-- ---- the legs

leg_byte : (ls : List (List ℕ)) (more : List ℕ) (i m : ℕ) → AllLong ls → i < length ls → m < leg_bytes
    → get_or (joined ls ++ more) (leg_bytes * i + m) 0 ≡ get_or (get_or ls i []) m 0
unfolding joined
leg_byte [] more i m a h k = absurd (omega arith)
leg_byte (l ∷ ls) more zero m a h k =
    let e : leg_bytes * 0 + m ≡ m = omega arith in
    rw (e, append_assoc l (joined ls) more) (List·getD-append l (joined ls ++ more) 0 m (omega (arith, a.0)))
leg_byte (l ∷ ls) more (suc i) m a h k =
    let e : leg_bytes * suc i + m ≡ length l + (leg_bytes * i + m) = omega (arith, a.0) in
    rw (e, append_assoc l (joined ls) more, get_or-append-add l (joined ls ++ more) (leg_bytes * i + m) 0) (leg_byte ls more i m a.1 (le_of_suc-le-suc h) k)

-- the same bytes are the same leg, wherever they stand
module _ (b c : List ℕ) (k : ℕ) (same : (m : ℕ) → m < leg_bytes → get_or b (4 * k + m) 0 ≡ get_or c m 0) where
  byte_same : (j r : ℕ) → j < 19 → r < 4 → get_or b (4 * (k + j) + r) 0 ≡ get_or c (4 * j + r) 0
  byte_same j r h l =
      let e : 4 * (k + j) + r ≡ 4 * k + (4 * j + r) = omega arith in
      ap (λ (i : ℕ). get_or b i 0) e ∙ same (4 * j + r) (omega arith)

  word_same : (j : ℕ) → j < 19 → word b (k + j) ≡ word c j
  unfolding word
  word_same j h =
      let first : get_or b (4 * (k + j)) 0 ≡ get_or c (4 * j) 0 =
      let e : 4 * (k + j) + 0 ≡ 4 * (k + j) = omega arith in let f : 4 * j + 0 ≡ 4 * j = omega arith in
      ap (λ (i : ℕ). get_or b i 0) (sym e) ∙ byte_same j 0 h (omega arith) ∙ ap (λ (i : ℕ). get_or c i 0) f in
      rw (first, byte_same j 1 h (omega arith), byte_same j 2 h (omega arith), byte_same j 3 h (omega arith))

  float_same : (j : ℕ) → j < 19 → float b (k + j) ≡ float c j
  unfolding float
  float_same j h = ap float_of (word_same j h)

  vec_same : (j : ℕ) → j + 2 < 19 → vec b (k + j) ≡ vec c j
  unfolding vec
  vec_same j h = rw (add_assoc k j 1, add_assoc k j 2, float_same j (omega arith), float_same (j + 1) (omega arith), float_same (j + 2) h)

  leg_same : leg_at b k ≡ leg_at c 0
  unfolding leg_at
  leg_same =
      let e : k + 0 ≡ k = omega arith in
      let first : vec b k ≡ vec c 0 = ap (vec b) (sym e) ∙ vec_same 0 (omega arith) in
      rw (first, vec_same 3 (omega arith), vec_same 6 (omega arith), vec_same 9 (omega arith), vec_same 12 (omega arith), vec_same 15 (omega arith), float_same 18 (omega arith))

-- each leg of the route is the one that is flown there
pub leg_of_route : (ls : List (List ℕ)) (i : ℕ) → AllLong ls → i < length ls → leg_of (route_of ls) i ≡ leg_at (get_or ls i []) 0
unfolding route_of
leg_of_route ls i a h =
    leg_same (route_of ls) (get_or ls i []) (19 * i) (λ m l.
    let e : 4 * (19 * i) + m ≡ leg_bytes * i + m = omega arith in
    ap (λ (j : ℕ). get_or (route_of ls) j 0) e ∙ leg_byte ls (word_bytes (length ls ∷ leg_bytes * length ls ∷ [])) i m a h l)

-- "the legs must meet": each leg and the one that is flown after it
pub meet_each : (ls : List (List ℕ)) → flown_meet ls ≡ true → (i : ℕ) → suc i < length ls → legs_meet (leg_at (get_or ls i []) 0) (leg_at (get_or ls (suc i) []) 0) ≡ true
unfolding flown_meet
meet_each [] e i h = absurd (omega arith)
meet_each (l ∷ []) e i h = absurd (omega arith)
meet_each (l ∷ m ∷ ls) e zero h = (both (legs_meet (leg_at l 0) (leg_at m 0)) (flown_meet (m ∷ ls)) e).0
meet_each (l ∷ m ∷ ls) e (suc i) h = meet_each (m ∷ ls) (both (legs_meet (leg_at l 0) (leg_at m 0)) (flown_meet (m ∷ ls)) e).1 i (le_of_suc-le-suc h)

meet_in_route : (ls : List (List ℕ)) → AllLong ls → flown_meet ls ≡ true → routeMeets (route_of ls) (length ls) ≡ true
meet_in_route ls a e = (joins_say (route_of ls) (length ls)).1 (λ i h.
    let n = add-one i in
    let l : suc i < length ls = subst (λ (j : ℕ). j < length ls) n h in
    rw (n, leg_of_route ls i a (omega arith), leg_of_route ls (suc i) a l) (meet_each ls e i l))

-- ---- a route of 1 to 32 legs that meet is taken

pub route_taken : (ls : List (List ℕ)) → AllLong ls → 1 ≤ length ls → length ls ≤ most_legs → flown_meet ls ≡ true → form_refusal (route_of ls) ≡ Done
unfolding form_refusal
route_taken ls a some few e =
    let n = length ls in
    rw (
      count_back ls a few,
      back_back ls a few,
      meet_in_route ls a e,
      route_length_lem ls a,
      le-ltb (route_length n) route_trailer_bytes (omega arith),
      ne_eqb n 0 (λ z. omega arith),
      le-ltb most_legs n few,
      eq-eqb (leg_bytes * n) (leg_bytes * n) refl,
      eq-eqb (route_length n) (route_length n) refl,
    )

-- ---- what an accepted call has

long_legs : (r : Read) → Long r → AllLong (legs_read r)
unfolding legs_read
long_legs broken a = tt
long_legs (is p) a = a

pub record Taken (b : List ℕ) (routeLen : ℕ) : Type 0 where
  pub some : 1 ≤ length (legs_of b)
  pub few : length (legs_of b) ≤ most_legs
  pub room : route_length (length (legs_of b)) ≤ routeLen
  pub meet : flown_meet (legs_of b) ≡ true
  pub long : AllLong (legs_of b)

pub taken : (b : List ℕ) (routeLen writtenLen : ℕ) → is_done (expand_refusal b routeLen writtenLen) ≡ true → Taken b routeLen
unfolding expand_refusal
taken b routeLen writtenLen e =
    let t = done_none (expand_table b routeLen writtenLen) e in let n = length (legs_of b) in
    record {
      some = pos n (eqb-false n 0 (t 2));
      few = ltb-false most_legs n (t 3);
      room = ltb-false routeLen (route_length n) (t 4);
      meet = not-false (flown_meet (legs_of b)) (t 5);
      long = long_legs (read DEEPEST b) (long_read DEEPEST b);
    }
  where
    pos : (n : ℕ) → (n ≡ 0 → ⊥) → 1 ≤ n
    pos n h = omega (arith, h)

-- "The route takes the first bytes of its buffer .. and the bytes after it stay", and it flies: a route tick's check of it gives no refusal
pub record Flies (b route later : List ℕ) : Type 0 where
  pub first : take (route_length (length (legs_of b))) later ≡ route_of (legs_of b)
  pub after : drop (route_length (length (legs_of b))) later ≡ drop (route_length (length (legs_of b))) route
  pub accepted : form_refusal (take (route_length (length (legs_of b))) later) ≡ Done

pub flies : (b route written : List ℕ) → is_done (expand_call b route written).outcome ≡ true → Flies b route (expand_call b route written).later.route
unfolding expand_call
flies b route written =
    either (λ (l : Expanded). is_done l.outcome ≡ true → Flies b route l.later.route) (expand_refusal b (length route) (length written))
    (λ d _.
    let t = taken b (length route) (length written) d in let ls = legs_of b in let len = route_length_lem ls t.long in
    let front : take (route_length (length ls)) (sets route 0 (route_of ls)) ≡ route_of ls =
    ap (λ (k : ℕ). take k (sets route 0 (route_of ls))) (sym len ∙ none (length (route_of ls))) ∙ run_slice route 0 (route_of ls) (omega (arith, len, t.room)) in
    record {
      first = front;
      after = ap (drop (route_length (length ls))) (sets-eq (route_of ls) route 0 (omega (arith, len, t.room)))
          ∙ drop_at (route_of ls) (drop (0 + length (route_of ls)) route) (route_length (length ls)) len
          ∙ ap (λ (k : ℕ). drop k route) (sym (none (length (route_of ls))) ∙ len);
      accepted = ap form_refusal front ∙ route_taken ls t.long t.some t.few t.meet;
    })
    (λ d e. no (sym d ∙ e))
  where
    none : (n : ℕ) → n ≡ 0 + n
    none n = omega arith

-- "A refused pattern writes nothing."
pub refused_writes_nothing : (b route written : List ℕ) → let o = expand_refusal b (length route) (length written) in
    is_done o ≡ false → expand_call b route written ≡ left o (buffers route written)
unfolding expand_call
refused_writes_nothing b route written e = refused_keeps (expand_refusal b (length route) (length written)) _ _ e

-- "expanding equals the legs in flown order": of every pattern at most four deep that has bytes
pub expands : (p : Pattern) (route written : List ℕ) → WithinLimits DEEPEST p → length written ≡ 4 → 1 ≤ length (flown_legs p) → length (flown_legs p) ≤ most_legs
    → route_length (length (flown_legs p)) ≤ length route → flown_meet (flown_legs p) ≡ true → expand_call (pattern_bytes p) route written ≡ left Done (with_route (flown_legs p) route)
unfolding expanded_call
expands p route written f k some few room e =
    sym (expanded (pattern_bytes p) route written k p (reads_back DEEPEST p f) some few) ∙ rw (le-ltb (length route) (route_length (length (flown_legs p))) room, e)

-- ---- "the legs must meet across repeats"

-- the last leg of a round and the first of the next, whatever is flown before and after
pub rounds_meet : (xs ms ys : List (List ℕ)) (n : ℕ) → 1 ≤ length ms → flown_meet (xs ++ (times (suc (suc n)) ms ++ ys)) ≡ true
    → legs_meet (leg_at (get_or ms (length ms - 1) []) 0) (leg_at (get_or ms 0 []) 0) ≡ true
unfolding times
rounds_meet xs ms ys n h e =
    let k = length ms - 1 in let later = ms ++ times n ms ++ ys in
    let all : ms ++ (ms ++ times n ms) ++ ys ≡ ms ++ later = append_assoc ms (ms ++ times n ms) ys in
    let here : get_or (xs ++ (ms ++ (ms ++ times n ms) ++ ys)) (length xs + k) [] ≡ get_or ms k [] =
    get_or-append-add xs (ms ++ (ms ++ times n ms) ++ ys) k [] ∙ ap (λ (l : List (List ℕ)). get_or l k []) all ∙ List·getD-append ms later [] k (omega arith) in
    let next : get_or (xs ++ (ms ++ (ms ++ times n ms) ++ ys)) (suc (length xs + k)) [] ≡ get_or ms 0 [] =
    ap (λ (i : ℕ). get_or (xs ++ (ms ++ (ms ++ times n ms) ++ ys)) i []) (place (length xs) (length ms) h)
    ∙ get_or-append-add xs (ms ++ (ms ++ times n ms) ++ ys) (length ms + 0) [] ∙ ap (λ (l : List (List ℕ)). get_or l (length ms + 0) []) all
    ∙ get_or-append-add ms later 0 [] ∙ ap (λ (l : List (List ℕ)). get_or l 0 []) (append_assoc ms (times n ms) ys) ∙ List·getD-append ms (times n ms ++ ys) [] 0 (omega arith) in
    let long = length-append xs (ms ++ (ms ++ times n ms) ++ ys) in
    let long' = ap length all ∙ length-append ms later in
    let long'' = ap length (append_assoc ms (times n ms) ys) ∙ length-append ms (times n ms ++ ys) in
    rw (here, next) at (meet_each (xs ++ (ms ++ (ms ++ times n ms) ++ ys)) e (length xs + k) (omega (arith, long, long', long'', h)))
  where
    place : (x m : ℕ) → 1 ≤ m → suc (x + (m - 1)) ≡ x + (m + 0)
    place x m h = omega arith

no_rounds : (n : ℕ) → ◌≡◌ {A = List (List ℕ)} (times n []) []
unfolding times
no_rounds zero = refl
no_rounds (suc n) = no_rounds n

-- a repeat that holds no leg stands between no two legs
pub empty_repeat : (n : ℕ) (inner more : Pattern) → flown_legs inner ≡ [] → flown_legs (repeat n inner more) ≡ flown_legs more
unfolding flown_legs times
empty_repeat n inner more e = ap (λ (l : List (List ℕ)). times n l ++ flown_legs more) e ∙ ap (λ (l : List (List ℕ)). l ++ flown_legs more) (no_rounds n)
