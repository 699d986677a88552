-- Every leg that is read has a leg's bytes. Assumes nothing.
use Rattle.laws.proofs.Prelude.{◌≡◌, sym, ap, subst, inl, inr, List, [], ◌∷◌, ◌++◌, map, append-nil, ℕ, zero, suc, ◌+◌, ◌≤◌, ◌<◌, le_of_suc-le-suc, arith, eqb, length, get_or, take, drop, length-drop}
use Rattle.laws.proofs.Prelude.{length-take-le, take_all, le_or_lt}
use Rattle.image.specs.Layout.{leg_bytes}
use Rattle.outcome.proofs.Tables.{by_test_lem}
use Rattle.std.proofs.Common.{Option, Some, None}
use Rattle.pattern.specs.{declared.form.Head.{Head, TheVariants.{Leg, Repeat}}, Tree.{times, flown_legs}}
use Rattle.pattern.specs.{Read.{Read, broken, is, head_of, size_of, repeated, item_of, before, items_of, read}, Walk.leg_in}
use Rattle.pattern.proofs.{Heads.{Room, head_room}, Trees.flown_append}

abbrev pub AllLong : List (List ℕ) → Type 0
AllLong [] = Unit
AllLong (l ∷ ls) = (length l ≡ leg_bytes) × AllLong ls

pub long_append : (ls ms : List (List ℕ)) → AllLong ls → AllLong ms → AllLong (ls ++ ms)
long_append [] ms a b = b
long_append (l ∷ ls) ms a b = (a.0, long_append ls ms a.1 b)

pub long_times : (n : ℕ) (ls : List (List ℕ)) → AllLong ls → AllLong (times n ls)
unfolding times
long_times zero ls a = tt
long_times (suc n) ls a = long_append ls (times n ls) a (long_times n ls a)

abbrev pub Long : Read → Type 0
Long broken = Unit
Long (is p) = AllLong (flown_legs p)

long_before : (r s : Read) → Long r → Long s → Long (before r s)
unfolding before
long_before broken s a b = tt
long_before (is p) broken a b = tt
long_before (is p) (is q) a b = subst AllLong (sym (flown_append p q)) (long_append (flown_legs p) (flown_legs q) a b)

long_repeated : (n : ℕ) (r : Read) → Long r → Long (repeated n r)
unfolding repeated flown_legs
long_repeated n broken a = tt
long_repeated n (is p) a = subst AllLong (sym (append-nil (times n (flown_legs p)))) (long_times n (flown_legs p) a)

module _ (inside : List ℕ → Read) (f : (b : List ℕ) → Long (inside b)) where
  long_item : (b : List ℕ) (h : Option Head) → Room (length b) h → Long (item_of inside b h)
  unfolding item_of flown_legs
  long_item b None r = tt
  long_item b (Some Leg) r = (length-take-le leg_bytes (drop 1 b) (omega (arith, r, length-drop 1 b)), tt)
  long_item b (Some (Repeat n len)) r = long_repeated n (inside (take len (drop 4 b))) (f (take len (drop 4 b)))

  long_items : (n : ℕ) (b : List ℕ) → Long (items_of inside n b)
  unfolding items_of flown_legs
  long_items zero b = tt
  long_items (suc n) b =
      let item = item_of inside b (head_of b) in
      let more = items_of inside n (drop (size_of (head_of b)) b) in
      by_test_lem Long (eqb (length b) 0) (λ _. tt) (λ _. long_before item more (long_item b (head_of b) (head_room b)) (long_items n (drop (size_of (head_of b)) b)))

pub long_read : (depth : ℕ) (b : List ℕ) → Long (read depth b)
unfolding read
long_read zero b = long_items (λ _. broken) (λ _. tt) (length b) b
long_read (suc depth) b = long_items (read depth) (long_read depth) (length b) b

-- so each stands within the bytes
within : (b : List ℕ) (place : ℕ) → length (leg_in b place) ≡ leg_bytes → place + leg_bytes ≤ length b
within b place e = elim (le_or_lt leg_bytes (length (drop place b))) [
  | inl h ↦ omega (arith, length-drop place b)
  | inr h ↦ let f = ap length (take_all leg_bytes (drop place b) (omega arith)) in omega (arith, f, length-drop place b)
]

pub long_places : (b places : List ℕ) → AllLong (map (leg_in b) places) → (i : ℕ) → i < length places → get_or places i 0 + leg_bytes ≤ length b
long_places b [] a i h = absurd (omega arith)
long_places b (p ∷ ps) a zero h = within b p a.0
long_places b (p ∷ ps) a (suc i) h = long_places b ps a.1 i (le_of_suc-le-suc h)
