-- Of each public function here: no second answer fits its promise. Assumes nothing.
use Rattle.laws.proofs.Prelude.{refl}
use Rattle.laws.proofs.Determined.{OneAnswer, no_second, both}
use Rattle.desk.proofs.OneAnswer.{same_left, same_lent}
use Rattle.fosavalo_desk.specs.contracts as promised
use Rattle.fosavalo_desk.proofs.fosavalo_desk_version
use Rattle.fosavalo_desk.proofs.fosavalo_desk_setup
use Rattle.fosavalo_desk.proofs.fosavalo_desk_centre
use Rattle.fosavalo_desk.proofs.fosavalo_desk_tick
use Rattle.fosavalo_desk.proofs.fosavalo_desk_route_tick

pub fosavalo_desk_version_once : OneAnswer promised.fosavalo_desk_version.ended fosavalo_desk_version.Reads.Post
fosavalo_desk_version_once κs a x y v w p q = (no_second p q, refl)

pub fosavalo_desk_setup_once : OneAnswer promised.fosavalo_desk_setup.ended fosavalo_desk_setup.Reads.Post
fosavalo_desk_setup_once κs a x y v w p q = let (o, l) = same_left (no_second p q) in (o, both l refl)

pub fosavalo_desk_centre_once : OneAnswer promised.fosavalo_desk_centre.ended fosavalo_desk_centre.Reads.Post
fosavalo_desk_centre_once κs a x y v w p q = let (o, l) = same_left (no_second p q) in (o, both l refl)

pub fosavalo_desk_tick_once : OneAnswer promised.fosavalo_desk_tick.ended fosavalo_desk_tick.Reads.Post
fosavalo_desk_tick_once κs a x y v w p q = let (o, d, m, i, n) = same_lent (no_second p q) in (o, both d (both refl (both m (both i (both n refl)))))

pub fosavalo_desk_route_tick_once : OneAnswer promised.fosavalo_desk_route_tick.ended fosavalo_desk_route_tick.Reads.Post
fosavalo_desk_route_tick_once κs a x y v w p q = let (o, d, m, i, n) = same_lent (no_second p q) in (o, both d (both refl (both m (both i (both refl (both n refl))))))
