-- Of each public function here: no second answer fits its promise. Assumes nothing.
use Rattle.laws.proofs.Prelude.{refl}
use Rattle.laws.proofs.Determined.{OneAnswer, no_second, both}
use Rattle.image.specs.contracts as promised
use Rattle.image.proofs.inputs
use Rattle.image.proofs.image
use Rattle.image.proofs.parts

pub setup_at_once : OneAnswer promised.inputs.setup_at.ended inputs.setup_at.Reads.Post
setup_at_once κs a x y v w p q = (no_second p q, refl)

pub input_at_once : OneAnswer promised.inputs.input_at.ended inputs.input_at.Reads.Post
input_at_once κs a x y v w p q = (no_second p q, refl)

pub put_answer_once : OneAnswer promised.inputs.put_answer.ended inputs.put_answer.Reads.Post
put_answer_once κs a x y v w p q = (refl, both (no_second p q) refl)

pub put_state_once : OneAnswer promised.image.put_state.ended image.put_state.Reads.Post
put_state_once κs a x y v w p q = (refl, both (no_second p q) refl)

pub put_next_state_once : OneAnswer promised.image.put_next_state.ended image.put_next_state.Reads.Post
put_next_state_once κs a x y v w p q = (refl, both (no_second p q) refl)

pub leg_at_once : OneAnswer promised.parts.leg_at.ended parts.leg_at.Reads.Post
leg_at_once κs a x y v w p q = (no_second p q, refl)

pub fixed_at_once : OneAnswer promised.image.fixed_at.ended image.fixed_at.Reads.Post
fixed_at_once κs a x y v w p q = (no_second p q, refl)

pub moving_at_once : OneAnswer promised.image.moving_at.ended image.moving_at.Reads.Post
moving_at_once κs a x y v w p q = (no_second p q, refl)

pub state_at_once : OneAnswer promised.image.state_at.ended image.state_at.Reads.Post
state_at_once κs a x y v w p q = (no_second p q, refl)
