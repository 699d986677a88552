-- The walk over items: what one item finds, and how it is added to what was found before. Assumes nothing.
use Rattle.laws.proofs.Prelude.{◌≡◌, refl, sym, ap, subst, ◌∙◌, List, [], ◌∷◌, ◌++◌, map-append, append-nil, ℕ, ◌+◌, ◌-◌, ◌*◌, ◌≤◌, ◌<◌, add-zero, arith, length, take, drop, length-append, length-map}
use Rattle.laws.proofs.Prelude.{sets, slice, length-slice}
use Rattle.words.proofs.Written.{sets_append}
use Rattle.image.specs.Layout.{leg_bytes}
use Rattle.route.specs.Form.{most_legs}
use Rattle.std.proofs.Common.{Option, Some, None}
use Rattle.pattern.specs.declared.{form.Head.{Head, TheVariants.{Leg, Repeat}}, walk.Past.{Past}}
use Rattle.pattern.specs.{Tree.{Pattern, nothing, leg, repeat, times, flown_legs}, Read.{Read, broken, is, head_of, size_of, repeated, item_of, append, before, read, inside_of, item_within}}
use Rattle.pattern.specs.Walk.{leg_in, capped, Found, past, walked_to, Walk, OneMore, Rounds}
use Rattle.pattern.proofs.{Parts.{part_from, part_within, part_of_whole}, Runs.{length_times, map_times, run_slice, rounds_over, at_least}, Heads.{Room, head_room, size_some}}
use Rattle.pattern.proofs.Trees.{flown_append, before_first, before_last, before_again, read_none, read_here, inside_is}
use Rattle.pattern.proofs.Rounds.{capped_below, capped_at_most, capped_add, capped_up, capped_rounds}

-- ---- what an answer says of what was read

-- the walk came past a pattern
pub record Came (r : Read) (next n x m : ℕ) : Type 0 where
  pub tree : Pattern
  pub is_it : r ≡ is tree
  pub place : x ≡ next
  pub count : m ≡ capped (n + length (flown_legs tree))

pub came : (r : Read) (next n x m : ℕ) → past x m ≡ walked_to next n r → Came r next n x m
unfolding walked_to
came broken next n x m e = let z : ◌≡◌ {A = ℕ} 0 1 = cc in absurd (omega arith)
came (is p) next n x m e =
    let same : ◌≡◌ {A = Past} record { next = x; legs = m } record { next = next; legs = capped (n + length (flown_legs p)) } = cc in
    record { tree = p; is_it = refl; place = ap (λ (w : Past). w.next) same; count = ap (λ (w : Past). w.legs) same }

pub came_up : (r : Read) (next n : ℕ) {x m : ℕ} → n ≤ 33 → past x m ≡ walked_to next n r → (n ≤ m) × (m ≤ 33)
came_up r next n {x} {m} h e =
    let c = came r next n x m e in
    (subst (λ (k : ℕ). n ≤ k) (sym c.count) (capped_up n (length (flown_legs c.tree)) h), omega (arith, c.count, capped_at_most (n + length (flown_legs c.tree))))

pub was_broken : (r : Read) (next n : ℕ) → None ≡ walked_to next n r → r ≡ broken
unfolding walked_to
was_broken broken next n e = refl
was_broken (is p) next n e = let z : ◌≡◌ {A = ℕ} 0 1 = cc in absurd (omega arith)

same_tree : (p q : Pattern) → is p ≡ is q → p ≡ q
same_tree p q e = cc

pub walk_broken : {b : List ℕ} {r : Read} {next n : ℕ} {old new : List ℕ} → r ≡ broken → Walk b r next n old None new
unfolding walked_to
walk_broken e = record { counted = sym (ap (walked_to _ _) e); found = λ p f. let z : ◌≡◌ {A = ℕ} 0 1 = cc in absurd (omega arith) }

-- by what the answer is told to be
pub told : {b : List ℕ} {r : Read} {next n : ℕ} {old new : List ℕ} {x y : Option Past} → x ≡ y → Walk b r next n old x new → Walk b r next n old y new
told e w = record { counted = sym e ∙ w.counted; found = w.found }

walk_is : (p : Pattern) {b : List ℕ} {r : Read} {next n : ℕ} {old new : List ℕ} {answer : Option Past} → r ≡ is p → answer ≡ past next (capped (n + length (flown_legs p)))
    → (n + length (flown_legs p) ≤ most_legs → Found b (flown_legs p) n old new) → Walk b r next n old answer new
unfolding walked_to
walk_is p {b} {r} {next} {n} {old} {new} e c f = record {
  counted = c ∙ sym (ap (walked_to next n) e);
  found = λ q g. subst (λ (x : Pattern). n + length (flown_legs x) ≤ most_legs → Found b (flown_legs x) n old new) (same_tree p q (sym e ∙ g)) f;
}

-- ---- one item

-- what the walk of the item at `at` is given: bytes up to `end`, room for 32 places, and how many legs stand before it
pub record Item (b : List ℕ) (at end depth n : ℕ) (old : List ℕ) : Type 0 where
  pub within : end ≤ length b
  pub size : length old ≡ most_legs
  pub few : n ≤ 33

module _ {b : List ℕ} {at end depth n : ℕ} {old : List ℕ} (given : Item b at end depth n old) where
  room_there : {x : Option Head} → x ≡ head_of (slice at end b) → Room (length (slice at end b)) x
  room_there e = subst (Room (length (slice at end b))) (sym e) (head_room (slice at end b))

  pub leg_fits : Some Leg ≡ head_of (slice at end b) → at + 1 + leg_bytes ≤ end
  leg_fits e = omega (arith, room_there e, length-slice at end b given.within)

  pub repeat_fits : {rounds len : ℕ} → Some (Repeat rounds len) ≡ head_of (slice at end b) → (1 ≤ rounds) × (rounds ≤ 9) × (at + 4 + len ≤ end)
  repeat_fits e = let r = room_there e in (r.0, r.1, omega (arith, r.2, length-slice at end b given.within))

  pub neither_done : None ≡ head_of (slice at end b) → Walk b (item_within depth (slice at end b)) (at + size_of (head_of (slice at end b))) n old None old
  unfolding item_of
  neither_done e = walk_broken (ap (item_of (inside_of depth) (slice at end b)) (sym e))

  pub leg_done : {m : ℕ} {new : List ℕ} → Some Leg ≡ head_of (slice at end b) → OneMore n (at + 1) old m new
      → Walk b (item_within depth (slice at end b)) (at + size_of (head_of (slice at end b))) n old (past (at + 77) m) new
  unfolding item_of size_of flown_legs
  leg_done {m} {new} e o =
      let l = take leg_bytes (drop 1 (slice at end b)) in
      let next : at + 77 ≡ at + size_of (head_of (slice at end b)) = ap (λ (x : Option Head). at + size_of x) e in
      walk_is (leg l nothing) (ap (item_of (inside_of depth) (slice at end b)) (sym e)) (rw (← next, o.counted))
      (λ f. record { places = (at + 1) ∷ []; legs = ap (λ (x : List ℕ). x ∷ []) (sym (part_of_whole b at end 1 leg_bytes (leg_fits e))); put = o.put (omega arith) })

  module _ {rounds len : ℕ} (e : Some (Repeat rounds len) ≡ head_of (slice at end b)) where
    repeat_is : item_within depth (slice at end b) ≡ repeated rounds (inside_of depth (take len (drop 4 (slice at end b))))
    unfolding item_of
    repeat_is = ap (item_of (inside_of depth) (slice at end b)) (sym e)

    pub too_deep : depth ≡ 0 → {new : List ℕ} → Walk b (item_within depth (slice at end b)) (at + size_of (head_of (slice at end b))) n old None new
    unfolding inside_of repeated
    too_deep d = walk_broken (repeat_is ∙ ap (λ (k : ℕ). repeated rounds (inside_of k (take len (drop 4 (slice at end b))))) d)

    module _ (d : depth ≡ 0 → ⊥) where
      inner_is : item_within depth (slice at end b) ≡ repeated rounds (read (depth - 1) (slice (at + 4) (at + 4 + len) b))
      inner_is =
          repeat_is
          ∙ ap (λ (f : List ℕ → Read). repeated rounds (f (take len (drop 4 (slice at end b))))) (inside_is depth d)
          ∙ ap (λ (s : List ℕ). repeated rounds (read (depth - 1) s)) (part_within b at end 4 len (repeat_fits e).2)

      pub body_broken : {new : List ℕ} → None ≡ walked_to (at + 4 + len) n (read (depth - 1) (slice (at + 4) (at + 4 + len) b))
          → Walk b (item_within depth (slice at end b)) (at + size_of (head_of (slice at end b))) n old None new
      unfolding repeated
      body_broken w = walk_broken (inner_is ∙ ap (repeated rounds) (was_broken (read (depth - 1) (slice (at + 4) (at + 4 + len) b)) (at + 4 + len) n w))

      pub repeat_done : {x m r : ℕ} {mid new : List ℕ} → Walk b (read (depth - 1) (slice (at + 4) (at + 4 + len) b)) (at + 4 + len) n old (past x m) mid → Rounds rounds n m mid r new
          → Walk b (item_within depth (slice at end b)) (at + size_of (head_of (slice at end b))) n old (past x r) new
      unfolding repeated size_of flown_legs
      repeat_done {x} {m} {r} {mid} {new} w o =
          let c = came (read (depth - 1) (slice (at + 4) (at + 4 + len) b)) (at + 4 + len) n x m w.counted in
          let ls = flown_legs c.tree in let one = (repeat_fits e).0 in
          let all : flown_legs (repeat rounds c.tree nothing) ≡ times rounds ls = append-nil (times rounds ls) in
          let many : length (flown_legs (repeat rounds c.tree nothing)) ≡ rounds * length ls = ap length all ∙ length_times rounds ls in
          let next : x ≡ at + size_of (head_of (slice at end b)) =
          c.place ∙ assoc ∙ ap (λ (y : Option Head). at + size_of y) e in
          walk_is (repeat rounds c.tree nothing) (inner_is ∙ ap (repeated rounds) c.is_it)
          (ap (λ (y : ℕ). past y r) next ∙ ap (past (at + size_of (head_of (slice at end b))))
          (o.counted ∙ capped_rounds rounds n (length ls) m one given.few c.count ∙ ap (λ (k : ℕ). capped (n + k)) (sym many)))
          (λ f.
          let least = at_least rounds (length ls) one in
          let g = w.found c.tree c.is_it (omega (arith, f, many, least)) in
          let same : length g.places ≡ length ls = sym (length-map g.places (leg_in b)) ∙ ap length g.legs in
          let last : m ≡ n + length g.places = c.count ∙ capped_below (n + length ls) (omega (arith, f, many, least)) ∙ ap (λ (k : ℕ). n + k) (sym same) in
          let legs : m - n ≡ length ls = omega (arith, last, same) in
          let put = o.put (subst (λ (k : ℕ). n + rounds * k ≤ most_legs) (sym legs) (omega (arith, f, many))) in
          let body : slice n m mid ≡ g.places =
          ap (λ (k : ℕ). slice n k mid) last ∙ ap (slice n (n + length g.places)) g.put
          ∙ run_slice old n g.places (omega (arith, same, f, many, least, given.size)) in
          record {
            places = times rounds g.places;
            legs = map_times (leg_in b) rounds g.places ∙ ap (times rounds) g.legs ∙ sym all;
            put = put ∙ ap (λ (s : List ℕ). sets mid n (times rounds s)) body ∙ ap (λ (s : List ℕ). sets s n (times rounds g.places)) g.put
                ∙ rounds_over rounds g.places old n one;
          })
        where
          assoc : at + 4 + len ≡ at + (4 + len)
          assoc = omega arith

-- ---- one item after another: of what there is, `rest` is still to be walked

pub record Going (b : List ℕ) (whole rest : Read) (count : ℕ) (old : List ℕ) (n : ℕ) (new : List ℕ) : Type 0 where
  pub done : Pattern
  pub split : whole ≡ before (is done) rest
  pub counted : n ≡ capped (count + length (flown_legs done))
  pub found : count + length (flown_legs done) ≤ most_legs → Found b (flown_legs done) count old new

pub going_few : {b : List ℕ} {whole rest : Read} {count n : ℕ} {old new : List ℕ} → Going b whole rest count old n new → n ≤ 33
going_few {count = count} g = omega (arith, g.counted, capped_at_most (count + length (flown_legs g.done)))

pub going_start : (b : List ℕ) (r : Read) (count : ℕ) (old : List ℕ) → count ≤ 33 → Going b r r count old count old
unfolding flown_legs
going_start b r count old h = record {
  done = nothing;
  split = sym (before_first r);
  counted = sym (ap capped (add-zero count) ∙ capped_below count h);
  found = λ _. record { places = []; legs = refl; put = refl };
}

-- the item at `at`, and what is read after it
pub read_step : (b : List ℕ) (depth at end : ℕ) {x : ℕ} → at < end → end ≤ length b → x ≡ at + size_of (head_of (slice at end b))
    → read depth (slice at end b) ≡ before (item_within depth (slice at end b)) (read depth (slice x end b))
read_step b depth at end h k e =
    read_here depth (slice at end b) (omega (arith, length-slice at end b k))
    ∙ ap (λ (s : List ℕ). before (item_within depth (slice at end b)) (read depth s)) (part_from b at end (size_of (head_of (slice at end b))) ∙ ap (λ (i : ℕ). slice i end b) (sym e))

sized : (inside : List ℕ → Read) (s : List ℕ) (h : Option Head) (p : Pattern) → Room (length s) h → item_of inside s h ≡ is p → size_of h ≤ length s
unfolding item_of size_of
sized inside s None p r e = let z : ◌≡◌ {A = ℕ} 0 1 = cc in absurd (omega arith)
sized inside s (Some Leg) p r e = r
sized inside s (Some (Repeat n len)) p r e = r.2

module _ (b : List ℕ) {whole rest : Read} {count n : ℕ} {old new : List ℕ} (g : Going b whole rest count old n new) where
  pub going_broken : (r : Read) {next : ℕ} {new' : List ℕ} → rest ≡ before broken r → Walk b whole next count old None new'
  unfolding before
  going_broken r e = walk_broken (g.split ∙ ap (before (is g.done)) e)

  pub going_end : {next : ℕ} → rest ≡ is nothing → Walk b whole next count old (past next n) new
  going_end {next} e = walk_is g.done (g.split ∙ ap (before (is g.done)) e ∙ before_last g.done) (ap (past next) g.counted) g.found

  pub going_on : (item more : Read) (next : ℕ) {x m : ℕ} {later : List ℕ} → rest ≡ before item more → Walk b item next n new (past x m) later
      → Going b whole more count old m later
  going_on item more next {x} {m} {later} e w =
      let c = came item next n x m w.counted in let p = g.done in let q = c.tree in let all = flown_append p q in
      let many : length (flown_legs (append p q)) ≡ length (flown_legs p) + length (flown_legs q) = ap length all ∙ length-append (flown_legs p) (flown_legs q) in
      record {
        done = append p q;
        split = g.split ∙ ap (before (is p)) (e ∙ ap (λ (i : Read). before i more) c.is_it) ∙ sym (before_again p q more);
        counted = c.count ∙ ap (λ (k : ℕ). capped (k + length (flown_legs q))) g.counted ∙ capped_add (count + length (flown_legs p)) (length (flown_legs q))
            ∙ ap capped (omega (arith, many));
        found = λ f.
            let first = g.found (omega (arith, f, many)) in
            let here : n ≡ count + length (flown_legs p) = g.counted ∙ capped_below (count + length (flown_legs p)) (omega (arith, f, many)) in
            let second = w.found q c.is_it (omega (arith, f, many, here)) in
            let same : length first.places ≡ length (flown_legs p) = sym (length-map first.places (leg_in b)) ∙ ap length first.legs in
            let at : n ≡ count + length first.places = omega (arith, here, same) in
            record {
              places = first.places ++ second.places;
              legs = map-append (leg_in b) first.places second.places ∙ rw (first.legs, second.legs) (sym all);
              put = second.put ∙ ap (λ (s : List ℕ). sets s n second.places) first.put
                  ∙ ap (λ (k : ℕ). sets (sets old count first.places) k second.places) at ∙ sets_append old count first.places second.places;
            };
      }

-- ---- one turn of the walk, at the item at `at`

pub record Turn (b : List ℕ) (depth at end : ℕ) (whole : Read) (count n : ℕ) (old new : List ℕ) : Type 0 where
  pub within : end ≤ length b
  pub some : at < end
  pub going : Going b whole (read depth (slice at end b)) count old n new

module _ {b : List ℕ} {depth at end : ℕ} {whole : Read} {count n : ℕ} {old new : List ℕ} (t : Turn b depth at end whole count n old new) where
  -- how far an item that is not broken brings the walk
  pub item_next : {x m : ℕ} → past x m ≡ walked_to (at + size_of (head_of (slice at end b))) n (item_within depth (slice at end b)) → (at < x) × (x ≤ end)
  item_next {x} {m} e =
      let s = slice at end b in
      let c = came (item_within depth s) (at + size_of (head_of s)) n x m e in
      let z = sized (inside_of depth) s (head_of s) c.tree (head_room s) c.is_it in let p = c.place in
      (omega (arith, p, size_some (head_of s)), omega (arith, p, z, length-slice at end b t.within))

  pub step_broken : {next : ℕ} {later : List ℕ} → None ≡ walked_to (at + size_of (head_of (slice at end b))) n (item_within depth (slice at end b)) → Walk b whole next count old None later
  step_broken e =
      let s = slice at end b in
      let more = read depth (slice (at + size_of (head_of s)) end b) in
      going_broken b t.going more (read_step b depth at end t.some t.within refl ∙ ap (λ (i : Read). before i more) (was_broken (item_within depth s) (at + size_of (head_of s)) n e))

  pub step_on : {x m : ℕ} {later : List ℕ} → Walk b (item_within depth (slice at end b)) (at + size_of (head_of (slice at end b))) n new (past x m) later
      → Going b whole (read depth (slice x end b)) count old m later
  step_on {x} {m} w =
      let s = slice at end b in
      let c = came (item_within depth s) (at + size_of (head_of s)) n x m w.counted in
      going_on b t.going (item_within depth s) (read depth (slice x end b)) (at + size_of (head_of s)) (read_step b depth at end t.some t.within c.place) w

pub step_end : (b : List ℕ) (depth at end : ℕ) {whole : Read} {count n : ℕ} {old new : List ℕ} → end ≤ length b → Going b whole (read depth (slice at end b)) count old n new → end ≤ at
    → Walk b whole end count old (past end n) new
step_end b depth at end k g h = going_end b g (read_none depth (slice at end b) (omega (arith, length-slice at end b k)))
