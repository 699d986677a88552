-- Of each public function here: no second answer fits its promise. Assumes nothing.
use Rattle.laws.proofs.Prelude.{refl}
use Rattle.laws.proofs.Determined.{OneAnswer, no_second}
use Rattle.relay_math.specs.contracts as promised
use Rattle.relay_math.proofs.angles
use Rattle.relay_math.proofs.fabsf
use Rattle.relay_math.proofs.is_finite
use Rattle.relay_math.proofs.finite_or
use Rattle.relay_math.proofs.finite_above
use Rattle.relay_math.proofs.above_or
use Rattle.relay_math.proofs.clamp
use Rattle.relay_math.proofs.clamp_or
use Rattle.relay_math.proofs.sqrt

pub sincos_once : OneAnswer promised.angles.sincos.ended angles.sincos.Reads.Post
sincos_once κs a x y v w p q = (no_second p q, refl)

pub sinf_once : OneAnswer promised.angles.sinf.ended angles.sinf.Reads.Post
sinf_once κs a x y v w p q = (no_second p.1 q.1, refl)

pub cosf_once : OneAnswer promised.angles.cosf.ended angles.cosf.Reads.Post
cosf_once κs a x y v w p q = (no_second p.1 q.1, refl)

pub fabsf_once : OneAnswer promised.fabsf.ended fabsf.Reads.Post
fabsf_once κs a x y v w p q = (no_second p q, refl)

pub is_finite_once : OneAnswer promised.is_finite.ended is_finite.Reads.Post
is_finite_once κs a x y v w p q = (no_second p q, refl)

pub finite_or_once : OneAnswer promised.finite_or.ended finite_or.Reads.Post
finite_or_once κs a x y v w p q = (no_second p q, refl)

pub finite_above_once : OneAnswer promised.finite_above.ended finite_above.Reads.Post
finite_above_once κs a x y v w p q = (no_second p q, refl)

pub above_or_once : OneAnswer promised.above_or.ended above_or.Reads.Post
above_or_once κs a x y v w p q = (no_second p q, refl)

pub clamp_once : OneAnswer promised.clamp.ended clamp.Reads.Post
clamp_once κs a x y v w p q = (no_second p q, refl)

pub clamp_or_once : OneAnswer promised.clamp_or.ended clamp_or.Reads.Post
clamp_or_once κs a x y v w p q = (no_second p q, refl)

pub sqrtf_once : OneAnswer promised.sqrt.sqrtf.ended sqrt.sqrtf.Reads.Post
sqrtf_once κs a x y v w p q = (no_second p.1 q.1, refl)

pub sqrtf_near_one_once : OneAnswer promised.sqrt.sqrtf_near_one.ended sqrt.sqrtf_near_one.Reads.Post
sqrtf_near_one_once κs a x y v w p q = (no_second p q, refl)
