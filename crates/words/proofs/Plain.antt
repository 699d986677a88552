-- Laws of bytes in which no word is a NaN's pattern, for callers. Assumes nothing.
use Rattle.laws.proofs.Prelude.{◌≡◌, sym, ap, ◌∙◌, subst, Bool, true, false, not, List, ℕ, zero, suc, ◌*◌, ◌%◌, ◌<◌, arith, inl, inr, le-leb, lt-leb, lt-ltb, le-ltb, T, leb, ltb, binary32, length}
use Rattle.laws.proofs.Prelude.{held, both, le_or_lt}
use lib.{Bits.{bit_or, or_add_and, and_le_l, and_le_r}, Ieee.Bits.{nan_bits_above, nan_bits_is}}
use Rattle.words.specs.{Words.word, Inner.{is_plain, all_plain, Plain}}

at_most : (a b : ℕ) → leb a b ≡ not (ltb b a)
at_most a b = elim (le_or_lt a b) [ inl h ↦ rw (le-leb a b h, le-ltb b a h) | inr h ↦ rw (lt-leb a b h, lt-ltb b a h) ]

-- one comparison tells a NaN's pattern (`nan_bits_above`)
pub plain_is : (w : ℕ) → leb (w % 2147483648) 2139095040 ≡ is_plain w
plain_is w = at_most (w % 2147483648) 2139095040 ∙ ap not (sym (nan_bits_above binary32 w) ∙ nan_bits_is binary32 w)

each : (b : List ℕ) (n : ℕ) → all_plain b n ≡ true → (k : ℕ) → k < n → T (is_plain (word b k))
each b zero e k l = let n : ⊥ = omega arith in absurd n
each b (suc n) e k l =
    let p = both (all_plain b n) (is_plain (word b n)) e in
    elim (le_or_lt n k) [
      | inl h ↦ let q : n ≡ k = omega arith in subst (λ (i : ℕ). T (is_plain (word b i))) q (held p.1)
      | inr h ↦ each b n p.0 k h
    ]

-- what `all_plain` says of all words
pub scanned : (b : List ℕ) (n : ℕ) (p : Bool) → p ≡ all_plain b n → length b ≡ 4 * n → Plain p b
scanned b n true e h = λ k l. each b n (sym e) k (omega arith)
scanned b n false e h = λ k l. tt

-- ---- what `|` gathers in a scan is nothing only if each part is

pub none_of : (a b : ℕ) → bit_or a b ≡ 0 → (a ≡ 0) × (b ≡ 0)
none_of a b e = let s = or_add_and a b in let l = and_le_l a b in let r = and_le_r a b in (omega arith, omega arith)
