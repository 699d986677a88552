-- `probe::numbers::probe_sincos`: the two parts of what `sincos` ensures. Assumes nothing.
use Rattle.laws.proofs.Prelude.{ap}
use Rattle.relay_math.specs.declared.angles.SineCosine.{SineCosine}
use Rattle.relay_math.specs.Steps.{sinf, cosf}
use Rattle.probe.proofs.numbers.probe_sincos.Goals as goal

pub returns : goal.returns
unfolding sinf cosf
returns c = record { cosine = ap (λ (p : SineCosine). p.cosine) c.sincos-p.ensures; sine = ap (λ (p : SineCosine). p.sine) c.sincos-p.ensures }
