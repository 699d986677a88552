use Rattle.relay_geo.specs.Inner.{feedforward_on}
use Rattle.relay_geo.proofs.attitude.feedforward_on.Goals as goal

pub returns-then-too_weak : goal.returns-then-too_weak
unfolding feedforward_on
returns-then-too_weak c = simp (← c.too_weak.ensures, c.if-too_weak.true)

pub returns : goal.returns
unfolding feedforward_on
returns c =
    let t = c.before.before.before.before in
    simp (← t.too_weak.ensures, t.if-too_weak.false, c.rate_from.ensures)
