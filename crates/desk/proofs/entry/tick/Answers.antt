-- `desk::entry::tick`: by the core's tick. Assumes nothing.
use Rattle.std.proofs.Common.{rules}
use Rattle.laws.proofs.Prelude.{◌≡◌, ◌∙◌}
use Rattle.outcome.specs.Outcomes.{left, lent}
use Rattle.calls.specs.Entry.{tick_call}
use Rattle.desk.specs.Entry.{OnSegment}
use Rattle.desk.proofs.DeskTickLeaves.{ticked_by}
use Rattle.desk.proofs.entry.tick.Goals as goal

pub returns : goal.returns
returns c =
    ticked_by _ _ _ _ _ OnSegment _ c.tick_by.ensures (λ k w.
    let flies : left w.after.0 (lent w.after.1.0.now w.after.1.1.0.now) ≡ tick_call w.before.0.now w.before.1.0.now w.before.1.1.0.now = search rules in
    w.leaves ∙ flies ∙ rw (w.shows.0, w.shows.1, w.shows.2))
