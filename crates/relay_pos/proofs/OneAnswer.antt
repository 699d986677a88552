-- Of each public function here: no second answer fits its promise. Assumes nothing.
use Rattle.laws.proofs.Prelude.{refl}
use Rattle.laws.proofs.Determined.{OneAnswer, no_second}
use Rattle.relay_pos.specs.contracts as promised
use Rattle.relay_pos.proofs.euler_to_quaternion

pub euler_to_quaternion_once : OneAnswer promised.euler_to_quaternion.ended euler_to_quaternion.Reads.Post
euler_to_quaternion_once κs a x y v w p q = (no_second p q, refl)
