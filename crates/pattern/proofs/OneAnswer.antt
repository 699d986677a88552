-- Of each public function here: no second answer fits its promise. Assumes nothing.
use Rattle.laws.proofs.Prelude.{refl, ap}
use Rattle.laws.proofs.Determined.{OneAnswer, no_second, both}
use Rattle.pattern.specs.Entry.{Expanded}
use Rattle.pattern.specs.contracts as promised
use Rattle.pattern.proofs.entry

pub expand_into_once : OneAnswer promised.entry.expand_into.ended entry.expand_into.Reads.Post
expand_into_once κs a x y v w p q =
    let e = no_second p q in
    (ap (λ (c : Expanded). c.outcome) e, both refl (both (ap (λ (c : Expanded). c.later.route) e) (both (ap (λ (c : Expanded). c.later.written) e) refl)))
