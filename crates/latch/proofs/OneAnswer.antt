-- Of each public function here: no second answer fits its promise. Assumes nothing.
use Rattle.laws.proofs.Prelude.{refl}
use Rattle.laws.proofs.Determined.{OneAnswer, no_second}
use Rattle.latch.specs.contracts as promised
use Rattle.latch.proofs.latch

pub latch_once : OneAnswer promised.latch.ended latch.Reads.Post
latch_once κs a x y v w p q = (no_second p q, refl)
