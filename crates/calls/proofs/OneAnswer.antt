-- Of each public function here: no second answer fits its promise. Assumes nothing.
use Rattle.laws.proofs.Prelude.{refl, ap}
use Rattle.laws.proofs.Determined.{OneAnswer, no_second, both}
use Rattle.outcome.specs.Outcomes.{Filled, Called}
use Rattle.calls.specs.contracts as promised
use Rattle.calls.proofs.entry

pub tick_refusal_once : OneAnswer promised.entry.tick_refusal.ended entry.tick_refusal.Reads.Post
tick_refusal_once κs a x y v w p q = (no_second p q, refl)

pub setup_once : OneAnswer promised.entry.setup.ended entry.setup.Reads.Post
setup_once κs a x y v w p q =
    let e = no_second p q in
    (ap (λ (l : Filled). l.outcome) e, both (ap (λ (l : Filled). l.later) e) refl)

pub exchange_once : OneAnswer promised.entry.exchange.ended entry.exchange.Reads.Post
exchange_once κs a x y v w p q =
    let e = no_second p q in
    (ap (λ (l : Filled). l.outcome) e, both (ap (λ (l : Filled). l.later) e) refl)

pub tick_once : OneAnswer promised.entry.tick.ended entry.tick.Reads.Post
tick_once κs a x y v w p q =
    let e = no_second p q in
    (ap (λ (c : Called). c.outcome) e, both (ap (λ (c : Called). c.later.image) e) (both refl (both (ap (λ (c : Called). c.later.answer) e) refl)))
