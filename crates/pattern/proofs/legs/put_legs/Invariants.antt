use Rattle.laws.proofs.Prelude.{◌≡◌, take, sets}
use Rattle.pattern.specs.Entry.{joined}
use Rattle.pattern.proofs.Found.{legs_at}
use Rattle.pattern.proofs.legs.put_legs.Given as goal

abbrev pub invariant-loop-i : goal.invariant-loop-i
invariant-loop-i l = l.route ≡ sets l.initial.route 0 (joined (take l.i (legs_at l.b l.places)))
