use Rattle.laws.proofs.Prelude.{refl, of_bits, nan_bits}
use Rattle.relay_geo.proofs.set.minus_infinity.Goals as goal

pub float_from_bits-result : goal.float_from_bits-result
unfolding of_bits nan_bits
float_from_bits-result c = tt

pub returns : goal.returns
unfolding of_bits nan_bits
returns c = refl
