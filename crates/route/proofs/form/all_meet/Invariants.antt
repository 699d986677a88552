use Rattle.laws.proofs.Prelude.{◌≡◌, ◌-◌}
use Rattle.route.specs.Form.{meet_from}
use Rattle.route.proofs.form.all_meet.Given as goal

abbrev pub invariant-loop-i : goal.invariant-loop-i
invariant-loop-i l = meet_from l.route (l.count - l.i) l.i ≡ meet_from l.route (l.count - 1) 1
