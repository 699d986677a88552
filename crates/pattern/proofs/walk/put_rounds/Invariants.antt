use Rattle.laws.proofs.Prelude.{◌≡◌, ◌-◌, take, sets, slice}
use Rattle.pattern.specs.Tree.{times as rounds}
use Rattle.pattern.proofs.walk.put_rounds.Given as goal

abbrev pub invariant-loop-i : goal.invariant-loop-i
invariant-loop-i l = l.places ≡ sets l.initial.places l.from (take (l.i - l.from) (rounds l.times (slice l.from l.to l.initial.places)))
