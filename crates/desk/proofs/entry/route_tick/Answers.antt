-- `desk::entry::route_tick`: by the core's route tick. Assumes nothing.
use Rattle.std.proofs.Common.{rules}
use Rattle.laws.proofs.Prelude.{◌≡◌, ◌∙◌}
use Rattle.outcome.specs.Outcomes.{left, lent}
use Rattle.route.specs.Entry.{route_call}
use Rattle.desk.specs.Entry.{OnRoute}
use Rattle.desk.proofs.DeskTickLeaves.{ticked_by}
use Rattle.desk.proofs.entry.route_tick.Goals as goal

pub returns : goal.returns
returns c =
    ticked_by _ _ _ _ _ (OnRoute c.args.route.now) _ c.tick_by.ensures (λ k w.
    let flies : left w.after.0 (lent w.after.1.0.now w.after.1.1.0.now) ≡ route_call w.before.0.now w.before.1.0.now c.args.route.now w.before.1.1.0.now = search rules in
    w.leaves ∙ flies ∙ rw (w.shows.0, w.shows.1, w.shows.2))
