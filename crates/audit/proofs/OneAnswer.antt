-- Of each public function here: no second answer fits its promise. Assumes nothing.
use Rattle.laws.proofs.Prelude.{refl, ap}
use Rattle.laws.proofs.Determined.{OneAnswer, no_second, both}
use Rattle.outcome.specs.Outcomes.{Filled}
use Rattle.audit.specs.contracts as promised
use Rattle.audit.proofs.check_into

pub check_into_once : OneAnswer promised.check_into.ended check_into.Reads.Post
check_into_once κs a x y v w p q =
    let e = no_second p q in
    (ap (λ (l : Filled). l.outcome) e, both refl (both refl (both refl (both refl (both (ap (λ (l : Filled). l.later) e) refl)))))
