use Rattle.relay_math.specs.Steps.{sinf, cosf}
use Rattle.relay_geo.specs.Attitude.{heading}
use Rattle.relay_geo.proofs.attitude.heading.Goals as goal

pub returns : goal.returns
unfolding heading sinf cosf
returns c = simp c.sincos-p.ensures
