use Rattle.laws.proofs.Prelude.{◌≡◌, false}
use Rattle.slow_shield.specs.Inner.{Between}
use Rattle.slow_shield.proofs.block_between.Given as goal

abbrev pub invariant-loop-k : goal.invariant-loop-k
invariant-loop-k l = l.out ≡ false → Between l.margins l.lo l.hi l.from l.k
