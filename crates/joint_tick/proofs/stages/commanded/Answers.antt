use Rattle.laws.proofs.Prelude.{refl}
use Rattle.relay_geo.specs.Vectors.{dot, prod3, matmul3}
use Rattle.joint_tick.specs.Tick.{commanded}
use Rattle.joint_tick.proofs.stages.commanded.Goals as goal

pub returns : goal.returns
unfolding commanded matmul3 prod3 dot
returns c = refl
