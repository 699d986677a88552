use Rattle.relay_geo.specs.Shield.{new_shield}
use Rattle.relay_geo.proofs.shield.SimplexShield.new.Goals as goal

pub returns : goal.returns
unfolding new_shield
returns c = simp c.mend-t.ensures
