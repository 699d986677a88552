-- A word whose exponent is below the infinity's is read as it stands. Assumes nothing.
use Rattle.laws.proofs.Prelude.{lt-ltb, le-ltb, sym, ◌∙◌, binary32, held}
use lib.Ieee.Bits.{nan_bits_is}
use Rattle.relay_math.proofs.Order.{finite_number}
use Rattle.words.specs.Words.{float}
use Rattle.words.proofs.FiniteWord.{finite_is}
use Rattle.words.proofs.read.finite_at.Goals as goal

pub float_from_bits-result : goal.float_from_bits-result
float_from_bits-result c = rw (nan_bits_is binary32 c.word_at-w.result) (finite_number _ (held (sym (finite_is c.word_at-w.result) ∙ lt-ltb _ _ c.if-w-lt4278190080.true)))

pub returns-then-w-lt4278190080 : goal.returns-then-w-lt4278190080
unfolding float
returns-then-w-lt4278190080 c = rw (← c.word_at-w.ensures, ← finite_is c.word_at-w.result, lt-ltb _ _ c.if-w-lt4278190080.true)

pub returns-else-w-lt4278190080 : goal.returns-else-w-lt4278190080
unfolding float
returns-else-w-lt4278190080 c = rw (← c.word_at-w.ensures, ← finite_is c.word_at-w.result, le-ltb _ _ c.if-w-lt4278190080.false)
