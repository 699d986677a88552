-- The call: each way out is a row of the table, or the route. Assumes nothing.
use Rattle.std.specs.Prelude.{Err}
use Rattle.laws.proofs.Prelude.{◌≡◌, sym, ap, subst, ◌∙◌, true, false, List, [], ◌∷◌, ◌++◌, ℕ, ◌+◌, ◌*◌, ◌≤◌, ◌<◌, zero-add, arith, lt-ltb, le-ltb, eq-eqb, ne_eqb, length, take, length-map}
use Rattle.laws.proofs.Prelude.{sets, slice}
use lib.Seq.{take-length}
use Rattle.std.proofs.Common.{None}
use Rattle.words.{specs.Words.{bytes_of, Put}, proofs.Written.{sets_append, whole}}
use Rattle.outcome.specs.{declared.Refusal.TheVariants.{BadPattern, LegCount, NoRoom, LegsApart}, Outcomes.{Outcome, Done, left}}
use Rattle.image.specs.Layout.{leg_bytes}
use Rattle.route.specs.Form.{most_legs}
use Rattle.pattern.specs.{Tree.{Pattern, flown_legs}, Read.{broken, is, read}, Walk.{leg_in, capped, past, walked_to, Walk, Found, Places}}
use Rattle.pattern.specs.Entry.{DEEPEST, joined, route_length, route_of, flown_meet, legs_read, expand_refusal, Buffers, buffers, expand_call, expanded_call}
use Rattle.pattern.proofs.{Runs.run_slice, Rounds.{capped_least, counted}, ItemByItem.{came, was_broken}, Long.{AllLong, Long, long_read, long_places}, Found.legs_at}

-- ---- 1 to 32 legs

module _ (ls : List (List ℕ)) (route written : List ℕ) {n : ℕ} (many : length ls ≡ n) where
  pub no_room : length route < route_length n → left (Err NoRoom) (buffers route written) ≡ expanded_call ls route written
  unfolding expanded_call
  no_room h = rw (many, lt-ltb (length route) (route_length n) h)

  pub apart : route_length n ≤ length route → flown_meet ls ≡ false → left (Err LegsApart) (buffers route written) ≡ expanded_call ls route written
  unfolding expanded_call
  apart h e = rw (many, le-ltb (length route) (route_length n) h, e)

  pub all_done : route_length n ≤ length route → flown_meet ls ≡ true → length (joined ls) ≡ leg_bytes * n → length written ≡ 4
      → {r s w : List ℕ} → r ≡ sets route 0 (joined ls) → Put r (19 * n) (n ∷ leg_bytes * n ∷ []) s → Put written 0 (route_length n ∷ []) w
      → left Done (buffers s w) ≡ expanded_call ls route written
  unfolding expanded_call route_of
  all_done h e j k {r} {s} f p q =
      let at : 4 * (19 * n) ≡ 0 + length (joined ls) = omega (arith, j) in
      let trailer : List ℕ = bytes_of (n ∷ leg_bytes * n ∷ []) in
      let a : s ≡ sets route 0 (joined ls ++ trailer) =
      p.is ∙ ap (λ (i : ℕ). sets r i trailer) at ∙ ap (λ (t : List ℕ). sets t (0 + length (joined ls)) trailer) f ∙ sets_append route 0 (joined ls) trailer in
      rw (many, le-ltb (length route) (route_length n) h, e, a, whole q k)

-- ---- what the walk over all bytes found

module _ (b old new : List ℕ) {x m : ℕ} (size : length old ≡ most_legs) (w : Walk b (read DEEPEST (slice 0 (length b) b)) (length b) 0 old (past x m) new) where
  all_read : read DEEPEST (slice 0 (length b) b) ≡ read DEEPEST b
  all_read = ap (read DEEPEST) (take-length b)

  abbrev pub tree : Pattern
  tree = (came (read DEEPEST (slice 0 (length b) b)) (length b) 0 x m w.counted).tree

  part_is : read DEEPEST (slice 0 (length b) b) ≡ is tree
  part_is = (came (read DEEPEST (slice 0 (length b) b)) (length b) 0 x m w.counted).is_it

  pub tree_is : read DEEPEST b ≡ is tree
  tree_is = sym all_read ∙ part_is

  how_many : m ≡ capped (length (flown_legs tree))
  how_many = (came (read DEEPEST (slice 0 (length b) b)) (length b) 0 x m w.counted).count ∙ ap capped (zero-add (length (flown_legs tree)))

  pub none_found : m ≡ 0 → length (flown_legs tree) ≡ 0
  none_found e = sym (counted (length (flown_legs tree)) (omega (arith, how_many))) ∙ sym how_many ∙ e

  pub many_found : 32 < m → 32 < length (flown_legs tree)
  many_found h = omega (arith, how_many, capped_least (length (flown_legs tree)))

  module _ (few : m ≤ most_legs) where
    all_counted : m ≡ length (flown_legs tree)
    all_counted = how_many ∙ counted (length (flown_legs tree)) (omega (arith, how_many))

    there : Found b (flown_legs tree) 0 old new
    there = w.found tree part_is (omega (arith, all_counted))

    placed : length there.places ≡ m
    placed = sym (length-map there.places (leg_in b)) ∙ ap length there.legs ∙ sym all_counted

    these : take m new ≡ there.places
    these =
        ap (λ (k : ℕ). take k new) (sym placed ∙ sym (zero-add (length there.places))) ∙ ap (take (0 + length there.places)) there.put
        ∙ run_slice old 0 there.places (omega (arith, placed, size))

    pub legs_found : legs_at b (take m new) ≡ flown_legs tree
    legs_found = ap (legs_at b) these ∙ there.legs

    pub places_found : Places b (take m new)
    places_found =
        let long : AllLong (flown_legs tree) = subst Long tree_is (long_read DEEPEST b) in
        subst (Places b) (sym these) record { fits = long_places b there.places (subst AllLong (sym there.legs) long) }

pub walk_says_broken : (b : List ℕ) → None ≡ walked_to (length b) 0 (read DEEPEST (slice 0 (length b) b)) → read DEEPEST b ≡ broken
walk_says_broken b e = sym (ap (read DEEPEST) (take-length b)) ∙ was_broken (read DEEPEST (slice 0 (length b) b)) (length b) 0 e

-- ---- the rows before

module _ (b route written : List ℕ) (k : length written ≡ 4) where
  pub bad_pattern : read DEEPEST b ≡ broken → left (Err BadPattern) (buffers route written) ≡ expand_call b route written
  unfolding expand_call expand_refusal
  bad_pattern e = rw (eq-eqb (length written) 4 k, e)

  module _ (p : Pattern) (e : read DEEPEST b ≡ is p) where
    pub no_legs : length (flown_legs p) ≡ 0 → left (Err LegCount) (buffers route written) ≡ expand_call b route written
    unfolding expand_call expand_refusal legs_read
    no_legs h = rw (eq-eqb (length written) 4 k, e, eq-eqb (length (flown_legs p)) 0 h)

    pub many_legs : 32 < length (flown_legs p) → left (Err LegCount) (buffers route written) ≡ expand_call b route written
    unfolding expand_call expand_refusal legs_read
    many_legs h = rw (eq-eqb (length written) 4 k, e, ne_eqb (length (flown_legs p)) 0 (λ z. omega arith), lt-ltb 32 (length (flown_legs p)) h)

    pub expanded : 1 ≤ length (flown_legs p) → length (flown_legs p) ≤ 32 → expanded_call (flown_legs p) route written ≡ expand_call b route written
    unfolding expand_call expand_refusal legs_read expanded_call
    expanded h l = rw (eq-eqb (length written) 4 k, e, ne_eqb (length (flown_legs p)) 0 (λ z. omega arith), le-ltb 32 (length (flown_legs p)) l)

-- the route of the legs found is the call's
module _ (b old new : List ℕ) {x m : ℕ} (size : length old ≡ most_legs) (w : Walk b (read DEEPEST (slice 0 (length b) b)) (length b) 0 old (past x m) new) (few : m ≤ most_legs)
    (route written : List ℕ) (k : length written ≡ 4) where
  pub routed : (m ≡ 0 → ⊥) → {o : Outcome} {later : Buffers} → left o later ≡ expanded_call (legs_at b (take m new)) route written → left o later ≡ expand_call b route written
  routed some e =
      let p = tree b old new size w in let n = all_counted b old new size w few in
      e ∙ ap (λ (ls : List (List ℕ)). expanded_call ls route written) (legs_found b old new size w few)
      ∙ expanded b route written k p (tree_is b old new size w) (omega (arith, n, some)) (omega (arith, n))
