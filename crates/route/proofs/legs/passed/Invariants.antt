use Rattle.laws.proofs.Prelude.{◌≡◌, ◌-◌}
use Rattle.route.specs.Legs.{flown_from, leg_flown}
use Rattle.route.proofs.legs.passed.Given as goal

abbrev pub invariant-loop-i : goal.invariant-loop-i
invariant-loop-i l = flown_from l.route l.time (l.count - l.i) l.i l.end ≡ leg_flown l.route l.count l.time
