-- The legs found, one turn of each loop over them. Assumes nothing.
use Rattle.laws.proofs.Prelude.{◌≡◌, refl, sym, ap, subst, ◌∙◌, Bool, true, ◌&&◌, List, [], ◌∷◌, ◌++◌, map, append_assoc, append-nil, ℕ, zero, suc, ◌+◌, ◌*◌, ◌≤◌, ◌<◌, suc-le-suc, add-one, arith}
use Rattle.laws.proofs.Prelude.{length, get_or, take, drop, length-drop, length-map, length-append, sets, length-take-le, take_all}
use lib.{ListN.get_or-map, Seq.{take-suc}}
use Rattle.words.proofs.Written.{sets_append}
use Rattle.image.specs.{Layout.leg_bytes, Parts.leg_at}
use Rattle.route.specs.Form.{legs_meet}
use Rattle.pattern.specs.{Walk.{leg_in, Places}, Entry.{flown_meet, joined}}

pub leg_length : (b : List ℕ) (place : ℕ) → place + leg_bytes ≤ length b → length (leg_in b place) ≡ leg_bytes
leg_length b place h = length-take-le leg_bytes (drop place b) (omega (arith, length-drop place b))

-- the legs at these places
abbrev pub legs_at : List ℕ → List ℕ → List (List ℕ)
legs_at b places = map (leg_in b) places

short_meets : (ls : List (List ℕ)) → length ls ≤ 1 → flown_meet ls ≡ true
unfolding flown_meet
short_meets [] h = refl
short_meets (l ∷ []) h = refl
short_meets (l ∷ m ∷ ls) h = absurd (omega arith)

joined_last : (ls : List (List ℕ)) (l : List ℕ) → joined (ls ++ l ∷ []) ≡ joined ls ++ l
unfolding joined
joined_last [] l = append-nil l
joined_last (m ∷ ls) l = ap (λ (r : List ℕ). m ++ r) (joined_last ls l) ∙ sym (append_assoc m (joined ls) l)

-- ---- the joins: two places side by side, of those that are left, and what is left after the first

pub places_after : (b rest : List ℕ) → Places b rest → Places b (drop 1 rest)
places_after b [] p = p
places_after b (x ∷ rest) p = record { fits = λ i h. p.fits (suc i) (suc-le-suc h) }

pub pair_fits : (b rest : List ℕ) {pair : List ℕ} → Places b rest → 2 ≤ length rest → pair ≡ take 2 rest → (get_or pair 0 0 + leg_bytes ≤ length b) × (get_or pair 1 0 + leg_bytes ≤ length b)
pair_fits b [] p h e = absurd (omega arith)
pair_fits b (x ∷ []) p h e = absurd (omega arith)
pair_fits b (x ∷ y ∷ rest) p h e = rw e (p.fits 0 (omega arith), p.fits 1 (omega arith))

pub meets_next : (b rest : List ℕ) {pair : List ℕ} → 2 ≤ length rest → pair ≡ take 2 rest → flown_meet (legs_at b rest)
    ≡ (legs_meet (leg_at (leg_in b (get_or pair 0 0)) 0) (leg_at (leg_in b (get_or pair 1 0)) 0) && flown_meet (legs_at b (drop 1 rest)))
unfolding flown_meet
meets_next b [] h e = absurd (omega arith)
meets_next b (x ∷ []) h e = absurd (omega arith)
meets_next b (x ∷ y ∷ rest) h e = rw e refl

pub meet_ends : (b rest : List ℕ) → length rest < 2 → flown_meet (legs_at b rest) ≡ true
meet_ends b rest h = short_meets (legs_at b rest) (omega (arith, length-map rest (leg_in b)))

module _ (b places : List ℕ) where
  pub how_many : length (legs_at b places) ≡ length places
  how_many = length-map places (leg_in b)

  leg_there : (i : ℕ) → get_or (legs_at b places) i (leg_in b 0) ≡ leg_in b (get_or places i 0)
  leg_there i = get_or-map (leg_in b) places i 0

  -- ---- one leg more

  pub one_leg_more : (i : ℕ) → i < length places → joined (take (i + 1) (legs_at b places)) ≡ joined (take i (legs_at b places)) ++ leg_in b (get_or places i 0)
  one_leg_more i h =
      rw (add-one i, take-suc (legs_at b places) i (leg_in b 0) (omega (arith, how_many)), leg_there i)
      (joined_last (take i (legs_at b places)) (leg_in b (get_or places i 0)))

-- two legs by what was read of them
pub joins : {l m x y : List ℕ} {t : Bool} → x ≡ l → y ≡ m → t ≡ legs_meet (leg_at x 0) (leg_at y 0) → legs_meet (leg_at l 0) (leg_at m 0) ≡ t
joins p q e = rw (← p, ← q) (sym e)

module _ (b places : List ℕ) (p : Places b places) where
  pub leg_long : (i : ℕ) → i < length places → {l : List ℕ} → l ≡ leg_in b (get_or places i 0) → length l ≡ leg_bytes
  leg_long i h e = ap length e ∙ leg_length b (get_or places i 0) (p.fits i h)

  pub legs_length : (i : ℕ) → i ≤ length places → length (joined (take i (legs_at b places))) ≡ leg_bytes * i
  unfolding joined
  legs_length zero h = refl
  legs_length (suc i) h =
      let more = ap length (one_leg_more b places i h) in
      let both = length-append (joined (take i (legs_at b places))) (leg_in b (get_or places i 0)) in
      let e : i + 1 ≡ suc i = omega arith in
      let l : length (joined (take (i + 1) (legs_at b places))) ≡ leg_bytes * suc i =
      omega (arith, more, both, legs_length i (omega arith), leg_length b (get_or places i 0) (p.fits i h)) in
      subst (λ (k : ℕ). length (joined (take k (legs_at b places))) ≡ leg_bytes * suc i) e l

  pub put_one_more : (route : List ℕ) (i : ℕ) → i < length places → {now later l : List ℕ} → l ≡ leg_in b (get_or places i 0) → later ≡ sets now (leg_bytes * i) l
      → now ≡ sets route 0 (joined (take i (legs_at b places))) → later ≡ sets route 0 (joined (take (i + 1) (legs_at b places)))
  put_one_more route i h e f g =
      let done = joined (take i (legs_at b places)) in
      let k : leg_bytes * i ≡ 0 + length done = omega (arith, legs_length i (omega arith)) in
      f ∙ rw (e, g, k, one_leg_more b places i h) (sets_append route 0 done (leg_in b (get_or places i 0)))

  pub all_put : (route : List ℕ) (i : ℕ) → length places ≤ i → sets route 0 (joined (take i (legs_at b places))) ≡ sets route 0 (joined (legs_at b places))
  all_put route i h = ap (λ (ls : List (List ℕ)). sets route 0 (joined ls)) (take_all i (legs_at b places) (omega (arith, how_many b places)))

  pub legs_length_all : length (joined (legs_at b places)) ≡ leg_bytes * length places
  legs_length_all =
      ap (λ (ls : List (List ℕ)). length (joined ls)) (sym (take_all (length places) (legs_at b places) (omega (arith, how_many b places)))) ∙ legs_length (length places) (omega arith)
