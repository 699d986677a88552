-- `words::read::all_plain`: the top bit is off so long as every word that it looked at is plain. Assumes nothing.
use Rattle.laws.proofs.Prelude.{◌≡◌, sym, ◌∙◌, ◌&&◌, inl, inr, ℕ, ◌+◌, ◌%◌, add-one, arith, le-leb, lt-leb, lt-ltb, le-ltb, le_or_lt}
use lib.Bits.{bit_or, or_lt, or_add_and, and_le_l, and_le_r}
use Rattle.words.specs.Inner.{is_plain}
use Rattle.words.proofs.Plain.{plain_is}
use Rattle.words.proofs.read.all_plain.Invariants.{Low}
use Rattle.words.proofs.read.all_plain.Goals as goal

low_or : (a b : ℕ) → Low (bit_or a b) ≡ (Low a && Low b)
low_or a b =
    let s = or_add_and a b in let l = and_le_l a b in let r = and_le_r a b in
    elim (le_or_lt 2147483648 a) [
      | inl h ↦ rw (le-ltb a 2147483648 h, le-ltb (bit_or a b) 2147483648 (omega arith))
      | inr h ↦ elim (le_or_lt 2147483648 b) [
        | inl k ↦ rw (lt-ltb a 2147483648 h, le-ltb b 2147483648 k, le-ltb (bit_or a b) 2147483648 (omega arith))
        | inr k ↦ rw (lt-ltb a 2147483648 h, lt-ltb b 2147483648 k, lt-ltb (bit_or a b) 2147483648 (or_lt 31 a b h k))
      ]
    ]

low_plain : (w : ℕ) → Low (w % 2147483648 + 8388607) ≡ is_plain w
low_plain w =
    let a = w % 2147483648 in
    elim (le_or_lt a 2139095040) [
      | inl h ↦ rw (lt-ltb (a + 8388607) 2147483648 (omega arith)) (sym (le-leb a 2139095040 h) ∙ plain_is w)
      | inr h ↦ rw (le-ltb (a + 8388607) 2147483648 (omega arith)) (sym (lt-leb a 2139095040 h) ∙ plain_is w)
    ]

pub loop-k-preserved : goal.loop-k-preserved
loop-k-preserved c = let at = c.loop-k in low_or at.above _ ∙ rw (add-one at.k, low_plain _, c.word_at.ensures, at.invariant)
