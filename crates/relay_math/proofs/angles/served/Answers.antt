-- `angles::served`: the constant is the definition's. Assumes nothing.
use Rattle.laws.proofs.Prelude.{refl, of_bits}
use Rattle.relay_math.proofs.angles.served.Goals as goal

pub returns : goal.returns
unfolding of_bits
returns c = refl
