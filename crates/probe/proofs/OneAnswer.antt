-- The test face: a call that promises what its routine promises, word for word, has that routine's theorem (host/pages/tests). Here are the others: no second answer fits. Assumes nothing.
use Rattle.laws.proofs.Prelude.{refl}
use Rattle.laws.proofs.Determined.{OneAnswer, no_second, both}
use Rattle.probe.specs.contracts as promised
use Rattle.probe.proofs.geo
use Rattle.probe.proofs.numbers

pub probe_gravity_ned_once : OneAnswer promised.geo.probe_gravity_ned.ended geo.probe_gravity_ned.Reads.Post
probe_gravity_ned_once κs a x y v w p q = (no_second p q, refl)

pub probe_sincos_once : OneAnswer promised.numbers.probe_sincos.ended numbers.probe_sincos.Reads.Post
probe_sincos_once κs a x y v w p q = (no_second p.0 q.0, both refl (both (no_second p.1 q.1) refl))
