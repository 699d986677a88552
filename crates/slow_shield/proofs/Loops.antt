-- One turn of each of the slow shield's loops. Assumes nothing.
use Rattle.laws.proofs.Prelude.{ℕ, zero, suc, ◌+◌, ◌*◌, ◌/◌, ◌-◌, ◌<◌, ◌≤◌, ◌≡◌, refl, sym, ap, subst, ◌∙◌, Bool, true, false, not, ◌&&◌, ◌||◌, cond, List, [], ◌∷◌, ◌++◌, map, map-append}
use Rattle.laws.proofs.Prelude.{le_of_suc-le-suc, add-one, arith, Float, nan, inf, fin, lt, le, length, get_or, set, length-map, sets, no, held, both}
use lib.Ieee.Bits.{is_true}
use mir.Val.{bool_byte}
use Rattle.relay_math.{specs.F32.is_finite, proofs.Order.{finite_number, le_is_not_above, not_lt_of_le, within_finite}}
use Rattle.words.{specs.Words.{float, flag}, proofs.Written.{sets_append, over_all}}
use Rattle.latch.specs.Latch.{releases, engages}
use Rattle.slow_shield.specs.{Back.{look_back, flags_to, slow_flags, in_band}, Entry.{margins_from, margins_in}}
use Rattle.slow_shield.proofs.Slow.{flags_to_length}

-- ---- the margin at a place, in the list and in the bytes

margin_from : (b : List ℕ) (k n i : ℕ) → i < n → get_or (margins_from b k n) i nan ≡ float b (k + i)
unfolding margins_from
margin_from b k zero i h = absurd (omega arith)
margin_from b k (suc n) zero h = let e : k + 0 ≡ k = omega arith in rw e
margin_from b k (suc n) (suc i) h = let e : k + suc i ≡ suc k + i = omega arith in rw e (margin_from b (suc k) n i (le_of_suc-le-suc h))

margin_at_lem : (b : List ℕ) (i : ℕ) → 4 * i + 4 ≤ length b → get_or (margins_in b) i nan ≡ float b i
margin_at_lem b i h = let e : 0 + i ≡ i = omega arith in margin_from b 0 (length b / 4) i (omega arith) ∙ rw e

-- ---- a margin within the band moves nothing; outside it, releasing or not decides

-- with f that it is finite, u that it is below enter and a that it is above exit
outside_tests : (f u a b : Bool) → (f ≡ true → (not u && not a) ≡ false) → cond (f && a) false (cond (not f || u) true b) ≡ not (f && a)
outside_tests false u a b h = refl
outside_tests true u true b h = refl
outside_tests true true false b h = refl
outside_tests true false false b h = no (sym (h refl))

module _ (enter exit : Float) (p : is_finite enter ≡ true) (q : is_finite exit ≡ true) where
  inside : (m : Float) (b : Bool) → in_band enter exit m ≡ true → cond (releases exit m) false (cond (engages enter m) true b) ≡ b
  inside m b e =
      let w = both (le enter m) (le m exit) e in
      let f = is_true (is_finite m) (within_finite enter exit m (held p) (held q) (held w.0, held w.1)) in
      rw (f, not_lt_of_le exit m (held w.1), not_lt_of_le m enter (held w.0))

  outside : (m : Float) (b : Bool) → in_band enter exit m ≡ false → cond (releases exit m) false (cond (engages enter m) true b) ≡ not (releases exit m)
  outside m b e = outside_tests (is_finite m) (lt m enter) (lt exit m) b (λ f.
      let n = finite_number m (held f) in
      rw (← le_is_not_above m enter n (finite_number enter (held p)), ← le_is_not_above exit m (finite_number exit (held q)) n) e)

  -- ---- one turn of the walk, by the margin that was read

  module _ (b : List ℕ) (i : ℕ) (h : 0 < i) (l : 4 * i ≤ length b) (m : Float) (r : m ≡ float b (i - 1)) where
    looked : look_back enter exit (margins_in b) i ≡ cond (releases exit m) false (cond (engages enter m) true (look_back enter exit (margins_in b) (i - 1)))
    unfolding look_back
    looked =
        let e : i ≡ suc (i - 1) = omega arith in
        ap (λ (n : ℕ). look_back enter exit (margins_in b) n) e ∙ rw (margin_at_lem b (i - 1) (omega arith), ← r)

    pub goes_on : in_band enter exit m ≡ true → look_back enter exit (margins_in b) (i - 1) ≡ look_back enter exit (margins_in b) i
    goes_on e = sym (looked ∙ inside m _ e)

    pub decides : in_band enter exit m ≡ false → look_back enter exit (margins_in b) i ≡ not (releases exit m)
    decides e = looked ∙ outside m _ e

pub at_start : (enter exit : Float) (ms : List Float) (i : ℕ) → i ≤ 0 → look_back enter exit ms i ≡ true
unfolding look_back
at_start enter exit ms zero h = refl
at_start enter exit ms (suc i) h = absurd (omega arith)

-- ---- an exit of +infinity: no margin is above it

releases_not : (enter exit m : Float) → is_finite enter ≡ true → is_finite exit ≡ false → lt enter exit ≡ true → releases exit m ≡ false
unfolding is_finite lt
releases_not nan exit m p q o = no p
releases_not (inf s) exit m p q o = no p
releases_not (fin s n d) exit nan p q o = refl
releases_not (fin s n d) exit (inf t) p q o = refl
releases_not (fin s n d) nan (fin t m e) p q o = no o
releases_not (fin s n d) (inf true) (fin t m e) p q o = no o
releases_not (fin s n d) (inf false) (fin t m e) p q o = refl
releases_not (fin s n d) (fin u l c) (fin t m e) p q o = no (sym q)

pub never_flies : (enter exit : Float) → is_finite enter ≡ true → is_finite exit ≡ false → lt enter exit ≡ true → (ms : List Float) (k : ℕ) → look_back enter exit ms k ≡ true
unfolding look_back
never_flies enter exit p q o ms zero = refl
never_flies enter exit p q o ms (suc k) = rw (releases_not enter exit (get_or ms k nan) p q o, never_flies enter exit p q o ms k) (either (engages enter (get_or ms k nan)))
  where
    either : (b : Bool) → cond b true true ≡ true
    either true = refl
    either false = refl

-- ---- one flag more

pub byte_of : (b : Bool) → bool_byte b ≡ flag b
byte_of true = refl
byte_of false = refl

pub one_more : (enter exit : Float) (ms : List Float) (b : List ℕ) (i : ℕ)
    → set (sets b 0 (map flag (flags_to enter exit ms i))) i (flag (look_back enter exit ms (i + 1))) ≡ sets b 0 (map flag (flags_to enter exit ms (i + 1)))
unfolding flags_to
one_more enter exit ms b i =
    let done : List ℕ = map flag (flags_to enter exit ms i) in let next : ℕ = flag (look_back enter exit ms (suc i)) in
    let e : 0 + length done ≡ i = omega (arith, length-map (flags_to enter exit ms i) flag, flags_to_length enter exit ms i) in
    rw (add-one i, map-append flag (flags_to enter exit ms i) (look_back enter exit ms (suc i) ∷ []))
    (subst (λ (n : ℕ). set (sets b 0 done) n next ≡ sets b 0 (done ++ (next ∷ []))) e (sets_append b 0 done (next ∷ [])))

length_from : (b : List ℕ) (k n : ℕ) → length (margins_from b k n) ≡ n
unfolding margins_from
length_from b k zero = refl
length_from b k (suc n) = ap suc (length_from b (suc k) n)

pub margins_length : (b : List ℕ) (n : ℕ) → length b ≡ 4 * n → length (margins_in b) ≡ n
margins_length b n h = let e : length b / 4 ≡ n = omega arith in length_from b 0 (length b / 4) ∙ e

-- all of them: the buffer no longer depends on what it held
pub all_flags : (enter exit : Float) (margins b : List ℕ) (i : ℕ) → length margins ≡ 4 * length b → i ≤ length b → length b ≤ i
    → sets b 0 (map flag (flags_to enter exit (margins_in margins) i)) ≡ map flag (slow_flags enter exit (margins_in margins))
all_flags enter exit margins b i h u l =
    let ms : List Float = margins_in margins in
    let n : length ms ≡ length b = margins_length margins (length b) h in let e : i ≡ length ms = omega arith in
    rw e (over_all b (map flag (slow_flags enter exit ms)) (sym (length-map (slow_flags enter exit ms) flag ∙ flags_to_length enter exit ms (length ms) ∙ n)))
