use Rattle.relay_geo.specs.Set.{recoverable}
use Rattle.relay_geo.proofs.set.RecoverableSet.recoverable.Goals as goal

pub returns : goal.returns
unfolding recoverable
returns c = simp c.margin.ensures
