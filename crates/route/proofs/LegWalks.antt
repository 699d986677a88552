-- One turn of each walk over a route's legs. Assumes nothing.
use Rattle.laws.proofs.Prelude.{◌≡◌, sym, ap, ◌∙◌, Bool, true, false, not, ◌&&◌, List, ℕ, suc, ◌+◌, ◌-◌, ◌/◌, ◌%◌, ◌<◌, ◌≤◌, add-one, arith, leb, ltb, le-leb, lt-leb, ltb-true, ltb-false, Float, binary32, eq, ne, lt}
use lib.{Bits.{bit_or, bit_xor, xor_add_and, and_le_l, and_le_r}, Ieee.Bits.{nan_bits_above, nan_bits_is}}
use Rattle.words.{specs.Words.{word, float, float_of}, proofs.Plain.none_of}
use Rattle.relay_math.{specs.F32.{◌⊕◌, ◌⊖◌}, proofs.Order.differs_as_nan}
use Rattle.route.specs.{Form.{leg_of, legs_meet, meet_from}, Legs.{Flown, duration_of, flown_from}}

-- ---- three tests

pub third : {a b c : Bool} → a ≡ true → b ≡ true → (a && b && c) ≡ c
third p q = rw (p, q)

-- whether two words are the same number, by what was read of them
pub met : (a : List ℕ) (j : ℕ) (b : List ℕ) (k : ℕ) {w x : ℕ} {r t : Bool} → w ≡ word a j → x ≡ word b k → r ≡ eq (float_of w) (float_of x) → r ≡ t
    → eq (float a j) (float b k) ≡ t
unfolding float
met a j b k p q e f = rw (← p, ← q, ← e) f

-- ---- words

at_most : (t : Bool) (a b : ℕ) → not t ≡ ltb b a → t ≡ leb a b
at_most true a b e = sym (le-leb a b (ltb-false b a (sym e)))
at_most false a b e = sym (lt-leb a b (ltb-true b a (sym e)))

-- a word beside itself
pub itself : {w x : ℕ} → w ≡ x → eq (float_of w) (float_of x) ≡ leb (w % 0x8000_0000) 0x7f80_0000
itself {w} p = rw (← p) (at_most _ _ _ (unfold ne in differs_as_nan (float_of w) ∙ sym (nan_bits_is binary32 w) ∙ nan_bits_above binary32 w))

-- what `^` leaves of two words is nothing only if they are the same
pub same_of : (a b : ℕ) → bit_xor a b ≡ 0 → a ≡ b
same_of a b e = omega (arith, xor_add_and a b, and_le_l a b, and_le_r a b)

pub none_apart : (w x : ℕ) → bit_or (bit_xor w x) ((w % 0x8000_0000 + 0x7f_ffff) / 0x8000_0000) ≡ 0 → eq (float_of w) (float_of x) ≡ true
none_apart w x e = let p = none_of _ _ e in itself (same_of w x p.0) ∙ le-leb (w % 0x8000_0000) 0x7f80_0000 (omega (arith, p.1))

pub all_three : {x y z : Bool} {a b c : ℕ} → (a ≡ 0 → x ≡ true) → (b ≡ 0 → y ≡ true) → (c ≡ 0 → z ≡ true) → bit_or (bit_or a b) c ≡ 0 → (x && y && z) ≡ true
all_three {x} {y} {z} {a} {b} {c} f g h e = let p = none_of (bit_or a b) c e in let q = none_of a b p.0 in third (f q.0) (g q.1) ∙ h p.1

-- the leg that was found is the one of which something is taken
pub of_the_found : {A : Type 0} (g : ℕ → Float → A) {r : A} {f h : Flown} → r ≡ g f.leg f.at → h ≡ f → r ≡ g h.leg h.at
of_the_found g e p = e ∙ ap (λ (f : Flown). g f.leg f.at) (sym p)

-- ---- what is left

-- i is one of n: what is left from i on is one more than what is left after it
more : (n i : ℕ) → i < n → n - i ≡ suc (n - suc i)
more n i h = omega arith

none_left : (n i : ℕ) → n ≤ i → n - i ≡ 0
none_left n i h = omega arith

module _ (b : List ℕ) (n i : ℕ) where
  -- ---- the joins

  pub meet_on : i < n → legs_meet (leg_of b (i - 1)) (leg_of b i) ≡ true → meet_from b (n - (i + 1)) (i + 1) ≡ meet_from b (n - i) i
  unfolding meet_from
  meet_on h e = rw (add-one i, more n i h, e)

  pub meet_stops : i < n → legs_meet (leg_of b (i - 1)) (leg_of b i) ≡ false → meet_from b (n - i) i ≡ false
  unfolding meet_from
  meet_stops h e = rw (more n i h, e)

  pub meet_ends : n ≤ i → meet_from b (n - i) i ≡ true
  unfolding meet_from
  meet_ends h = rw (none_left n i h)

  -- ---- the leg flown, by the duration d that was read

  module _ (time end : Float) {d : Float} where
    pub flown_on : i < n → d ≡ duration_of b i → lt time (end ⊕ d) ≡ false → flown_from b time (n - (i + 1)) (i + 1) (end ⊕ d) ≡ flown_from b time (n - i) i end
    unfolding flown_from
    flown_on h p e = rw (add-one i, more n i h, ← p, e)

    pub flown_here : i < n → d ≡ duration_of b i → lt time (end ⊕ d) ≡ true → flown_from b time (n - i) i end ≡ record { leg = i; at = time ⊖ end }
    unfolding flown_from
    flown_here h p e = rw (more n i h, ← p, e)

    pub flown_last : i ≤ n → n ≤ i → d ≡ duration_of b (n - 1) → flown_from b time (n - i) i end ≡ record { leg = n - 1; at = d }
    unfolding flown_from
    flown_last h k p = let e : i ≡ n = omega arith in rw (e, none_left n n (omega arith), p)
