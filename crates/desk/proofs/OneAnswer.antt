-- Of each public function here: no second answer fits its promise. Assumes nothing.
use Rattle.laws.proofs.Prelude.{◌≡◌, refl, List, ℕ}
use Rattle.laws.proofs.Determined.{OneAnswer, no_second, both}
use Rattle.outcome.specs.Outcomes.{Left}
use Rattle.desk.specs.Entry.{LentToDesk}
use Rattle.desk.specs.contracts as promised
use Rattle.desk.proofs.entry

-- the parts of what two calls leave, where that is the same
pub same_left : {O : Type 0} {l m : Left O (List ℕ)} → l ≡ m → (l.outcome ≡ m.outcome) × (l.later ≡ m.later)
same_left e = rw e (refl, refl)

pub same_lent : {O : Type 0} {l m : Left O LentToDesk} → l ≡ m
    → (l.outcome ≡ m.outcome) × (l.later.desk ≡ m.later.desk) × (l.later.image ≡ m.later.image) × (l.later.input ≡ m.later.input) × (l.later.answer ≡ m.later.answer)
same_lent e = rw e (refl, refl, refl, refl, refl)

pub refusal_of_core_once : OneAnswer promised.entry.DeskRefusalFromRefusal.from.ended entry.DeskRefusalFromRefusal.from.Reads.Post
refusal_of_core_once κs a x y v w p q = (no_second p q, refl)

pub desk_refusal_to_number_once : OneAnswer promised.entry.U32FromDeskRefusal.from.ended entry.U32FromDeskRefusal.from.Reads.Post
desk_refusal_to_number_once κs a x y v w p q = (no_second p q, refl)

pub desk_number_once : OneAnswer promised.entry.desk_number.ended entry.desk_number.Reads.Post
desk_number_once κs a x y v w p q = (no_second p q, refl)

pub setup_once : OneAnswer promised.entry.setup.ended entry.setup.Reads.Post
setup_once κs a x y v w p q = let (o, l) = same_left (no_second p q) in (o, both l refl)

pub centre_once : OneAnswer promised.entry.centre.ended entry.centre.Reads.Post
centre_once κs a x y v w p q = let (o, l) = same_left (no_second p q) in (o, both l refl)

pub tick_once : OneAnswer promised.entry.tick.ended entry.tick.Reads.Post
tick_once κs a x y v w p q = let (o, d, m, i, n) = same_lent (no_second p q) in (o, both d (both refl (both m (both i (both n refl)))))

pub route_tick_once : OneAnswer promised.entry.route_tick.ended entry.route_tick.Reads.Post
route_tick_once κs a x y v w p q = let (o, d, m, i, n) = same_lent (no_second p q) in (o, both d (both refl (both m (both i (both refl (both n refl))))))
