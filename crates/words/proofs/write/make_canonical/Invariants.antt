use Rattle.words.specs.Words.{canons, Put}
use Rattle.words.proofs.write.make_canonical.Given as goal

abbrev pub invariant-loop-k : goal.invariant-loop-k
invariant-loop-k l = Put l.initial.bytes 0 (canons l.initial.bytes 0 l.k) l.bytes
