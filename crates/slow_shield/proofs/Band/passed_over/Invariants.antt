use Rattle.laws.proofs.Prelude.{◌≡◌}
use Rattle.slow_shield.specs.Back.{look_back}
use Rattle.slow_shield.specs.Entry.{margins_in}
use Rattle.slow_shield.proofs.Band.passed_over.Given as goal

abbrev pub invariant-loop-i : goal.invariant-loop-i
invariant-loop-i l = look_back l.fn.self.enter l.fn.self.exit (margins_in l.margins) l.i ≡ look_back l.fn.self.enter l.fn.self.exit (margins_in l.margins) l.count
