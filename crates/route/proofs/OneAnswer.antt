-- Of each public function here: no second answer fits its promise. Assumes nothing.
use Rattle.laws.proofs.Prelude.{refl, ap}
use Rattle.laws.proofs.Determined.{OneAnswer, no_second, both}
use Rattle.outcome.specs.Outcomes.{Filled, Called}
use Rattle.route.specs.contracts as promised
use Rattle.route.proofs.form
use Rattle.route.proofs.entry
use Rattle.route.proofs.sample

pub route_tick_once : OneAnswer promised.entry.route_tick.ended entry.route_tick.Reads.Post
route_tick_once κs a x y v w p q =
    let e = no_second p q in
    (ap (λ (c : Called). c.outcome) e, both (ap (λ (c : Called). c.later.image) e) (both refl (both refl (both (ap (λ (c : Called). c.later.answer) e) refl))))

pub legs_meet_once : OneAnswer promised.form.legs_meet.ended form.legs_meet.Reads.Post
legs_meet_once κs a x y v w p q = (no_second p q, refl)

pub route_sample_once : OneAnswer promised.sample.route_sample.ended sample.route_sample.Reads.Post
route_sample_once κs a x y v w p q =
    let e = no_second p q in
    (ap (λ (l : Filled). l.outcome) e, both refl (both refl (both (ap (λ (l : Filled). l.later) e) refl)))
