-- "Its bytes": a pattern is read back from its bytes, and bytes that are read are written back. Assumes nothing.
use Rattle.laws.proofs.Prelude.{◌≡◌, refl, sym, ap, subst, ◌∙◌, inl, inr, List, [], ◌∷◌, ◌++◌, ℕ, zero, suc, ◌+◌, ◌-◌, ◌*◌, ◌/◌, ◌%◌, ◌≤◌, ◌<◌, arith, le-ltb, ne_eqb, length, get_or, take, drop}
use Rattle.laws.proofs.Prelude.{length-append, length-drop, take-append-drop, take_at, drop_at, get_or-take, get_or-drop, length-take-le, le_or_lt}
use lib.{ListN.get_or-eq_default, Seq.{drop-cons, drop-drop}}
use Rattle.image.specs.Layout.{leg_bytes}
use Rattle.std.proofs.Common.{Option, Some, None}
use Rattle.pattern.specs.{declared.form.Head.{Head, TheVariants.{Leg, Repeat}}, Tree.{Pattern, nothing, leg, repeat, pattern_bytes, WithinLimits}}
use Rattle.pattern.specs.Read.{Read, broken, is, head_of, size_of, repeated, item_of, append, before, items_of, read, inside_of, item_within}
use Rattle.pattern.proofs.{Heads.{a_leg, a_repeat, Room, head_room, Tags, head_tags, size_some}, Trees.{read_none, read_here, items_none, items_here}}

-- ---- what was written is read: for every pattern at most so deep that has bytes

module _ (depth : ℕ) (l : List ℕ) (more : Pattern) (long : length l ≡ leg_bytes) where
  leg_starts : Some Leg ≡ head_of (pattern_bytes (leg l more))
  unfolding pattern_bytes
  leg_starts = a_leg (pattern_bytes (leg l more)) refl refl refl (le-ltb (length (pattern_bytes (leg l more))) 77 (omega (arith, length-append l (pattern_bytes more))))

  leg_back : read depth (pattern_bytes more) ≡ is more → read depth (pattern_bytes (leg l more)) ≡ is (leg l more)
  unfolding pattern_bytes item_of size_of before append
  leg_back r =
      let s = pattern_bytes (leg l more) in
      let item : item_within depth s ≡ is (leg l nothing) =
      ap (item_of (inside_of depth) s) (sym leg_starts) ∙ ap (λ (x : List ℕ). is (leg x nothing)) (take_at l (pattern_bytes more) leg_bytes long) in
      let after : drop (size_of (head_of s)) s ≡ pattern_bytes more =
      ap (λ (h : Option Head). drop (size_of h) s) (sym leg_starts) ∙ drop_at (0 ∷ l) (pattern_bytes more) (1 + leg_bytes) (omega (arith, long)) in
      read_here depth s (omega (arith, length-append l (pattern_bytes more))) ∙ rw (item, after, r)

module _ (depth n : ℕ) (inner more : Pattern) (some : 1 ≤ n) (few : n ≤ 9) where
  repeat_starts : Some (Repeat n (length (pattern_bytes inner))) ≡ head_of (pattern_bytes (repeat n inner more))
  unfolding pattern_bytes
  repeat_starts =
      let len = length (pattern_bytes inner) in let s = pattern_bytes (repeat n inner more) in
      let e : len ≡ len % 256 + 256 * (len / 256) = omega arith in
      let all = length-append (pattern_bytes inner) (pattern_bytes more) in
      ap (λ (k : ℕ). Some (Repeat n k)) e
      ∙ a_repeat s refl refl refl refl (le-ltb (length s) 4 (omega arith)) refl (ne_eqb n 0 (λ z. omega arith)) (le-ltb 9 n few) refl
      (le-ltb (length s - 4) (len % 256 + 256 * (len / 256)) (omega (arith, e, all)))

  repeat_back : read depth (pattern_bytes inner) ≡ is inner → read (suc depth) (pattern_bytes more) ≡ is more
      → read (suc depth) (pattern_bytes (repeat n inner more)) ≡ is (repeat n inner more)
  unfolding pattern_bytes item_of size_of inside_of repeated before append
  repeat_back i r =
      let len = length (pattern_bytes inner) in let s = pattern_bytes (repeat n inner more) in
      let item : item_within (suc depth) s ≡ is (repeat n inner nothing) =
      ap (item_of (inside_of (suc depth)) s) (sym repeat_starts)
      ∙ ap (λ (x : List ℕ). repeated n (read depth x)) (take_at (pattern_bytes inner) (pattern_bytes more) len refl) ∙ ap (repeated n) i in
      let front : List ℕ = 1 ∷ n ∷ len % 256 ∷ len / 256 ∷ pattern_bytes inner in
      let after : drop (size_of (head_of s)) s ≡ pattern_bytes more =
      ap (λ (h : Option Head). drop (size_of h) s) (sym repeat_starts) ∙ drop_at front (pattern_bytes more) (4 + len) (omega arith) in
      read_here (suc depth) s (omega arith) ∙ rw (item, after, r)

pub reads_back : (depth : ℕ) (p : Pattern) → WithinLimits depth p → read depth (pattern_bytes p) ≡ is p
unfolding WithinLimits pattern_bytes
reads_back depth nothing f = read_none depth [] refl
reads_back depth (leg l more) f = leg_back depth l more f.0 (reads_back depth more f.1)
reads_back zero (repeat n inner more) f = absurd f
reads_back (suc depth) (repeat n inner more) f =
    repeat_back depth n inner more f.0 f.1 (reads_back depth inner f.3) (reads_back (suc depth) more f.4)

-- so no two patterns share their bytes
pub one_pattern : (depth : ℕ) (p q : Pattern) → WithinLimits depth p → WithinLimits depth q → pattern_bytes p ≡ pattern_bytes q → p ≡ q
one_pattern depth p q f g e =
    let h : is p ≡ is q = sym (reads_back depth p f) ∙ ap (read depth) e ∙ reads_back depth q g in
    cc

-- ---- what is read was written

-- bytes, as a lent slice has them
abbrev pub Bytes : List ℕ → Type 0
Bytes b = (i : ℕ) → get_or b i 0 < 256

bytes_drop : (b : List ℕ) (k : ℕ) → Bytes b → Bytes (drop k b)
bytes_drop b k h i = subst (λ (x : ℕ). x < 256) (sym (get_or-drop k b i 0)) (h (k + i))

at_most : (k : ℕ) (b : List ℕ) → length (take k b) ≤ k
at_most zero b = omega arith
at_most (suc k) [] = omega arith
at_most (suc k) (x ∷ b) = omega (arith, at_most k b)

bytes_take : (b : List ℕ) (k : ℕ) → Bytes b → Bytes (take k b)
bytes_take b k h i = elim (le_or_lt k i) [
  | inl l ↦ subst (λ (x : ℕ). x < 256) (sym (get_or-eq_default (take k b) 0 (omega (arith, l, at_most k b)))) (omega arith)
  | inr l ↦ subst (λ (x : ℕ). x < 256) (sym (get_or-take k b i 0 l)) (h i)
]

-- a repeat's pattern, one less deep
abbrev Inner : ℕ → Pattern → Type 0
Inner zero p = ⊥
Inner (suc depth) p = WithinLimits depth p

fits_repeat : (depth n : ℕ) (inner more : Pattern) → 1 ≤ n → n ≤ 9 → length (pattern_bytes inner) ≤ 65535 → Inner depth inner → WithinLimits depth more → WithinLimits depth (repeat n inner more)
unfolding WithinLimits
fits_repeat zero n inner more h k l i f = absurd i
fits_repeat (suc depth) n inner more h k l i f = (h, k, l, i, f)

pub record Written (depth : ℕ) (b : List ℕ) (p : Pattern) : Type 0 where
  pub bytes : pattern_bytes p ≡ b
  pub fits : WithinLimits depth p

record Both (r s : Read) (p : Pattern) : Type 0 where
  pub first : Pattern
  pub second : Pattern
  pub first_is : r ≡ is first
  pub second_is : s ≡ is second
  pub together : p ≡ append first second

both : (r s : Read) (p : Pattern) → before r s ≡ is p → Both r s p
unfolding before
both broken s p e = let z : ◌≡◌ {A = ℕ} 0 1 = cc in absurd (omega arith)
both (is q) broken p e = let z : ◌≡◌ {A = ℕ} 0 1 = cc in absurd (omega arith)
both (is q) (is r) p e = record { first = q; second = r; first_is = refl; second_is = refl; together = cc }

record Body (n : ℕ) (r : Read) (p : Pattern) : Type 0 where
  pub inner : Pattern
  pub inner_is : r ≡ is inner
  pub whole : p ≡ repeat n inner nothing

body : (n : ℕ) (r : Read) (p : Pattern) → repeated n r ≡ is p → Body n r p
unfolding repeated
body n broken p e = let z : ◌≡◌ {A = ℕ} 0 1 = cc in absurd (omega arith)
body n (is q) p e = record { inner = q; inner_is = refl; whole = cc }

split_four : (b : List ℕ) → 4 ≤ length b → b ≡ get_or b 0 0 ∷ get_or b 1 0 ∷ get_or b 2 0 ∷ get_or b 3 0 ∷ drop 4 b
split_four b h =
    drop-cons b 0 0 (omega arith)
    ∙ ap (λ (l : List ℕ). get_or b 0 0 ∷ l)
    (drop-cons b 1 0 (omega arith) ∙ ap (λ (l : List ℕ). get_or b 1 0 ∷ l) (drop-cons b 2 0 (omega arith) ∙ ap (λ (l : List ℕ). get_or b 2 0 ∷ l) (drop-cons b 3 0 (omega arith))))

none_right : (depth : ℕ) (b : List ℕ) (p : Pattern) → length b ≡ 0 → is nothing ≡ is p → Written depth b p
unfolding pattern_bytes WithinLimits
none_right depth [] p h e = let f : p ≡ nothing = cc in rw f record { bytes = refl; fits = tt }
none_right depth (x ∷ b) p h e = absurd (omega arith)

leg_right : (depth : ℕ) (b : List ℕ) (more : Pattern) → 77 ≤ length b → get_or b 0 0 ≡ 0 → Written depth (drop (1 + leg_bytes) b) more
    → Written depth b (append (leg (take leg_bytes (drop 1 b)) nothing) more)
unfolding append pattern_bytes WithinLimits
leg_right depth b more r t w =
    let l = take leg_bytes (drop 1 b) in
    record {
      bytes =
          ap (λ (x : List ℕ). 0 ∷ l ++ x) (w.bytes ∙ sym (drop-drop leg_bytes 1 b)) ∙ ap (λ (x : List ℕ). 0 ∷ x) (take-append-drop leg_bytes (drop 1 b))
          ∙ ap (λ (x : ℕ). x ∷ drop 1 b) (sym t) ∙ sym (drop-cons b 0 0 (omega arith));
      fits = (length-take-le leg_bytes (drop 1 b) (omega (arith, length-drop 1 b)), w.fits);
    }

repeat_right : (depth : ℕ) (b : List ℕ) (n len : ℕ) (inner more : Pattern) → Bytes b → Room (length b) (Some (Repeat n len)) → Tags b (Some (Repeat n len))
    → pattern_bytes inner ≡ take len (drop 4 b) → Inner depth inner → Written depth (drop (4 + len) b) more
    → Written depth b (append (repeat n inner nothing) more)
unfolding append pattern_bytes
repeat_right depth b n len inner more y r t i f w =
    let l : length (pattern_bytes inner) ≡ len = ap length i ∙ length-take-le len (drop 4 b) (omega (arith, r.2, length-drop 4 b)) in
    let sum : get_or b 2 0 + 256 * get_or b 3 0 ≡ len = t.2 in
    let lo : length (pattern_bytes inner) % 256 ≡ get_or b 2 0 = omega (arith, l, sum, y 2) in
    let hi : length (pattern_bytes inner) / 256 ≡ get_or b 3 0 = omega (arith, l, sum, y 2) in
    let rest : pattern_bytes inner ++ pattern_bytes more ≡ drop 4 b =
    ap (λ (x : List ℕ). x ++ pattern_bytes more) i ∙ ap (λ (x : List ℕ). take len (drop 4 b) ++ x) (w.bytes ∙ sym (drop-drop len 4 b)) ∙ take-append-drop len (drop 4 b) in
    record {
      bytes =
          ap (λ (x : ℕ). 1 ∷ n ∷ x ∷ length (pattern_bytes inner) / 256 ∷ pattern_bytes inner ++ pattern_bytes more) lo
          ∙ ap (λ (x : ℕ). 1 ∷ n ∷ get_or b 2 0 ∷ x ∷ pattern_bytes inner ++ pattern_bytes more) hi
          ∙ ap (λ (x : List ℕ). 1 ∷ n ∷ get_or b 2 0 ∷ get_or b 3 0 ∷ x) rest
          ∙ ap (λ (x : ℕ). x ∷ n ∷ get_or b 2 0 ∷ get_or b 3 0 ∷ drop 4 b) (sym t.0)
          ∙ ap (λ (x : ℕ). get_or b 0 0 ∷ x ∷ get_or b 2 0 ∷ get_or b 3 0 ∷ drop 4 b) (sym t.1)
          ∙ sym (split_four b (omega (arith, r.2)));
      fits = fits_repeat depth n inner more r.0 r.1 (omega (arith, l, sum, y 2, y 3)) f w.fits;
    }

module _ (depth : ℕ) (inside : List ℕ → Read) (right : (c : List ℕ) (q : Pattern) → Bytes c → inside c ≡ is q → (pattern_bytes q ≡ c) × Inner depth q) where
  -- by what the bytes start with, where the rest is right
  item_right : (b : List ℕ) (h : Option Head) (first second : Pattern) → Bytes b → Room (length b) h → Tags b h → item_of inside b h ≡ is first
      → Written depth (drop (size_of h) b) second → Written depth b (append first second)
  unfolding item_of size_of
  item_right b None first second y r t e w = let z : ◌≡◌ {A = ℕ} 0 1 = cc in absurd (omega arith)
  item_right b (Some Leg) first second y r t e w = let f : first ≡ leg (take leg_bytes (drop 1 b)) nothing = cc in rw f (leg_right depth b second r t w)
  item_right b (Some (Repeat n len)) first second y r t e w =
      let g = body n (inside (take len (drop 4 b))) first e in
      let i = right (take len (drop 4 b)) g.inner (bytes_take (drop 4 b) len (bytes_drop b 4 y)) g.inner_is in
      rw g.whole (repeat_right depth b n len g.inner second y r t i.0 i.1 w)

  items_right : (n : ℕ) (b : List ℕ) (p : Pattern) → length b ≤ n → Bytes b → items_of inside n b ≡ is p → Written depth b p
  items_right zero b p h y e = none_right depth b p (omega arith) (sym (items_none inside zero b (omega arith)) ∙ e)
  items_right (suc n) b p h y e = elim (le_or_lt (length b) 0) [
    | inl l ↦ none_right depth b p (omega arith) (sym (items_none inside (suc n) b (omega arith)) ∙ e)
    | inr l ↦
        let size = size_of (head_of b) in let less = length-drop size b in let some = size_some (head_of b) in
        let q = both (item_of inside b (head_of b)) (items_of inside n (drop size b)) p (sym (items_here inside n b l) ∙ e) in
        rw q.together
        (item_right b (head_of b) q.first q.second y (head_room b) (head_tags b) q.first_is
        (items_right n (drop size b) q.second (omega (arith, less, some)) (bytes_drop b size y) q.second_is))
  ]

pub writes_back : (depth : ℕ) (b : List ℕ) (p : Pattern) → Bytes b → read depth b ≡ is p → Written depth b p
unfolding read
writes_back zero b p y e = items_right zero (λ _. broken) (λ c q z f. let w : ◌≡◌ {A = ℕ} 0 1 = cc in absurd (omega arith)) (length b) b p (omega arith) y e
writes_back (suc depth) b p y e =
    items_right (suc depth) (read depth) (λ c q z f. let w = writes_back depth c q z f in (w.bytes, w.fits)) (length b) b p (omega arith) y e
