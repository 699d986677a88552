-- Of each public function here: no second answer fits its promise. Assumes nothing.
use Rattle.laws.proofs.Prelude.{refl}
use Rattle.laws.proofs.Determined.{OneAnswer, no_second}
use Rattle.outcome.specs.contracts as promised
use Rattle.outcome.proofs.number
use Rattle.outcome.proofs.U32FromRefusal

pub number_once : OneAnswer promised.number.ended number.Reads.Post
number_once κs a x y v w p q = (no_second p q, refl)

pub refusal_to_number_once : OneAnswer promised.U32FromRefusal.from.ended U32FromRefusal.from.Reads.Post
refusal_to_number_once κs a x y v w p q = (no_second p q, refl)
