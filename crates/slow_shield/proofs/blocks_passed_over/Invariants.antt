use Rattle.laws.proofs.Prelude.{◌*◌, ◌-◌}
use Rattle.slow_shield.specs.Inner.{Between}
use Rattle.slow_shield.proofs.blocks_passed_over.Given as goal

abbrev pub invariant-loop-n : goal.invariant-loop-n
invariant-loop-n l = Between l.margins l.lo l.hi (l.count - 64 * l.n) l.count
