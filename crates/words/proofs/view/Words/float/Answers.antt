-- A plain word is read as it stands, and any other by `float_of`. Assumes nothing.
use Rattle.laws.proofs.Prelude.{binary32}
use lib.Ieee.Bits.{nan_bits_is}
use Rattle.words.proofs.view.Words.float.Goals as goal

pub float_from_bits-result : goal.float_from_bits-result
float_from_bits-result c = rw (nan_bits_is binary32 c.word-w.result, c.word-w.ensures) (rw c.if-self.true at (c.args.self.now.known c.args.k c.requires))
