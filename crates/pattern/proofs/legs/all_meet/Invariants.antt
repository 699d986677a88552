use Rattle.laws.proofs.Prelude.{◌≡◌}
use Rattle.std.specs.Slice.Iter.{windows_rest, windows_size}
use Rattle.pattern.specs.Walk.{Places}
use Rattle.pattern.specs.Entry.{flown_meet}
use Rattle.pattern.proofs.Found.{legs_at}
use Rattle.pattern.proofs.legs.all_meet.Given as goal

abbrev pub invariant-loop-pair : goal.invariant-loop-pair
invariant-loop-pair l =
    let rest = windows_rest l.pair-iterator in
    record { size : windows_size l.pair-iterator ≡ 2; fits : Places l.b rest; meet : flown_meet (legs_at l.b rest) ≡ flown_meet (legs_at l.b l.places) }
