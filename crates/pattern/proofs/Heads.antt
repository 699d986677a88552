-- What an item starts with, test by test. Assumes nothing.
use Rattle.laws.proofs.Prelude.{◌≡◌, refl, sym, ap, ◌∙◌, true, false, List, ℕ, ◌+◌, ◌-◌, ◌≤◌, ◌<◌, arith, ltb-false, eqb-true, eqb-false, eqb, ltb, length, get_or, slice, length-slice}
use Rattle.std.proofs.Common.{Option, Some, None}
use Rattle.outcome.proofs.Tables.{by_test_lem}
use Rattle.pattern.specs.{declared.form.Head.{Head, TheVariants.{Leg, Repeat}}, Read.{head_of, inner_length, size_of}}
use Rattle.pattern.proofs.Parts.{part_get}

module _ (s : List ℕ) {left t : ℕ} (e : left ≡ length s) (f : t ≡ get_or s 0 0) where
  pub short_leg : eqb t 0 ≡ true → ltb left 77 ≡ true → None ≡ head_of s
  unfolding head_of
  short_leg h k = simp (← e, ← f, h, k)

  pub a_leg : eqb t 0 ≡ true → ltb left 77 ≡ false → Some Leg ≡ head_of s
  unfolding head_of
  a_leg h k = simp (← e, ← f, h, k)

  module _ (h : eqb t 0 ≡ false) where
    pub bad_tag : eqb t 1 ≡ false → None ≡ head_of s
    unfolding head_of
    bad_tag k = simp (← f, h, k)

    module _ (k : eqb t 1 ≡ true) where
      pub short_repeat : ltb left 4 ≡ true → None ≡ head_of s
      unfolding head_of
      short_repeat l = simp (← e, ← f, h, k, l)

      module _ (l : ltb left 4 ≡ false) {n : ℕ} (g : n ≡ get_or s 1 0) where
        pub no_rounds : eqb n 0 ≡ true → None ≡ head_of s
        unfolding head_of
        no_rounds p = simp (← e, ← f, ← g, h, k, l, p)

        module _ (p : eqb n 0 ≡ false) where
          pub many_rounds : ltb 9 n ≡ true → None ≡ head_of s
          unfolding head_of
          many_rounds q = simp (← e, ← f, ← g, h, k, l, p, q)

          module _ (q : ltb 9 n ≡ false) {len : ℕ} (u : len ≡ inner_length s) where
            pub too_long : ltb (left - 4) len ≡ true → None ≡ head_of s
            unfolding head_of
            too_long r = simp (← e, ← f, ← g, ← u, h, k, l, p, q, r)

            pub a_repeat : ltb (left - 4) len ≡ false → Some (Repeat n len) ≡ head_of s
            unfolding head_of
            a_repeat r = simp (← e, ← f, ← g, ← u, h, k, l, p, q, r)

-- ---- what follows of the bytes there are

by_head : (P : Option Head → Type 0) (s : List ℕ) → P None → (get_or s 0 0 ≡ 0 → 77 ≤ length s → P (Some Leg))
    → (get_or s 0 0 ≡ 1 → (1 ≤ get_or s 1 0) × (get_or s 1 0 ≤ 9) × (4 + inner_length s ≤ length s) → P (Some (Repeat (get_or s 1 0) (inner_length s)))) → P (head_of s)
unfolding head_of
by_head P s none leg repeat =
    let left = length s in
    by_test_lem P (eqb (get_or s 0 0) 0) (λ t. by_test_lem P (ltb left 77) (λ _. none) (λ p. leg (eqb-true (get_or s 0 0) 0 t) (ltb-false left 77 p)))
    (λ _. by_test_lem P (eqb (get_or s 0 0) 1)
    (λ t. by_test_lem P (ltb left 4) (λ _. none)
    (λ p. by_test_lem P (eqb (get_or s 1 0) 0) (λ _. none)
    (λ z. by_test_lem P (ltb 9 (get_or s 1 0)) (λ _. none)
    (λ q. by_test_lem P (ltb (left - 4) (inner_length s)) (λ _. none)
    (λ r.
    let some = eqb-false (get_or s 1 0) 0 z in
    repeat (eqb-true (get_or s 0 0) 1 t) (omega (arith, some), ltb-false 9 (get_or s 1 0) q, omega (arith, ltb-false left 4 p, ltb-false (left - 4) (inner_length s) r)))))))
    (λ _. none))

abbrev pub Room : ℕ → Option Head → Type 0
Room left None = Unit
Room left (Some Leg) = 77 ≤ left
Room left (Some (Repeat n len)) = (1 ≤ n) × (n ≤ 9) × (4 + len ≤ left)

pub head_room : (s : List ℕ) → Room (length s) (head_of s)
head_room s = by_head (Room (length s)) s tt (λ _ h. h) (λ _ h. h)

pub size_some : (h : Option Head) → 1 ≤ size_of h
unfolding size_of
size_some None = omega arith
size_some (Some Leg) = omega arith
size_some (Some (Repeat n len)) = omega arith

-- ---- the bytes of a part, as the code reads them

module _ (b : List ℕ) {at end : ℕ} (p : (at < end) × (end ≤ length b)) where
  pub all_left : end - at ≡ length (slice at end b)
  all_left = sym (length-slice at end b p.1)

  pub first_byte : {t : ℕ} → t ≡ get_or b at 0 → t ≡ get_or (slice at end b) 0 0
  first_byte e = let z : at + 0 ≡ at = omega arith in e ∙ sym (part_get b at end 0 (omega arith) ∙ ap (λ (i : ℕ). get_or b i 0) z)

  pub byte : {t : ℕ} (i : ℕ) → at + i < end → t ≡ get_or b (at + i) 0 → t ≡ get_or (slice at end b) i 0
  byte i h e = e ∙ sym (part_get b at end i h)

-- ---- what the bytes are

abbrev pub Tags : List ℕ → Option Head → Type 0
Tags s None = Unit
Tags s (Some Leg) = get_or s 0 0 ≡ 0
Tags s (Some (Repeat n len)) = (get_or s 0 0 ≡ 1) × (get_or s 1 0 ≡ n) × (inner_length s ≡ len)

pub head_tags : (s : List ℕ) → Tags s (head_of s)
head_tags s = by_head (Tags s) s tt (λ e _. e) (λ e _. (e, refl, refl))
