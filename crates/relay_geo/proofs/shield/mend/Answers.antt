use Rattle.relay_geo.specs.Shield.{mend_thresholds}
use Rattle.relay_geo.proofs.shield.mend.Goals as goal

pub returns : goal.returns
unfolding mend_thresholds
returns c = simp (c.mend_exit.ensures, c.mend_enter-enter.ensures)
