use Rattle.relay_geo.specs.Set.{margin}
use Rattle.relay_geo.proofs.set.RecoverableSet.margin.Goals as goal

pub returns-then-unknown : goal.returns-then-unknown
unfolding margin
returns-then-unknown c = simp (← c.unknown.ensures, c.if-unknown.true, c.minus_infinity.ensures)

pub returns : goal.returns
unfolding margin
returns c = let k = c.before.before.before.before.before.before in simp (c.finite_or.ensures, c.minus_infinity-2.ensures, c.smaller.ensures, ← k.unknown.ensures, k.if-unknown.false)
