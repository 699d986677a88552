-- Of each public function here: no second answer fits its promise. Assumes nothing.
use Rattle.laws.proofs.Prelude.{◌≡◌, refl, List, ℕ}
use Rattle.outcome.specs.Outcomes.{Left, Lent}
use Rattle.pattern.specs.Entry.{Buffers}
use Rattle.laws.proofs.Determined.{OneAnswer, no_second, both}
use Rattle.fosavalo.specs.contracts as promised
use Rattle.fosavalo.proofs.fosavalo_version
use Rattle.fosavalo.proofs.fosavalo_sinf
use Rattle.fosavalo.proofs.fosavalo_cosf
use Rattle.fosavalo.proofs.fosavalo_setup
use Rattle.fosavalo.proofs.fosavalo_exchange
use Rattle.fosavalo.proofs.fosavalo_tick
use Rattle.fosavalo.proofs.fosavalo_tick_refusal
use Rattle.fosavalo.proofs.fosavalo_route_tick
use Rattle.fosavalo.proofs.fosavalo_route_sample
use Rattle.fosavalo.proofs.fosavalo_log_append
use Rattle.fosavalo.proofs.fosavalo_log_count
use Rattle.fosavalo.proofs.fosavalo_log_record
use Rattle.fosavalo.proofs.fosavalo_flags
use Rattle.fosavalo.proofs.fosavalo_log_check
use Rattle.fosavalo.proofs.fosavalo_pattern_expand

-- the parts of what two calls leave, where that is the same
same_left : {l m : Left ℕ (List ℕ)} → l ≡ m → (l.outcome ≡ m.outcome) × (l.later ≡ m.later)
same_left e = rw e (refl, refl)

same_lent : {l m : Left ℕ Lent} → l ≡ m → (l.outcome ≡ m.outcome) × (l.later.image ≡ m.later.image) × (l.later.answer ≡ m.later.answer)
same_lent e = rw e (refl, refl, refl)

same_buffers : {l m : Left ℕ Buffers} → l ≡ m → (l.outcome ≡ m.outcome) × (l.later.route ≡ m.later.route) × (l.later.written ≡ m.later.written)
same_buffers e = rw e (refl, refl, refl)

pub fosavalo_version_once : OneAnswer promised.fosavalo_version.ended fosavalo_version.Reads.Post
fosavalo_version_once κs a x y v w p q = (no_second p q, refl)

pub fosavalo_sinf_once : OneAnswer promised.fosavalo_sinf.ended fosavalo_sinf.Reads.Post
fosavalo_sinf_once κs a x y v w p q = (no_second p.1 q.1, refl)

pub fosavalo_cosf_once : OneAnswer promised.fosavalo_cosf.ended fosavalo_cosf.Reads.Post
fosavalo_cosf_once κs a x y v w p q = (no_second p.1 q.1, refl)

pub fosavalo_setup_once : OneAnswer promised.fosavalo_setup.ended fosavalo_setup.Reads.Post
fosavalo_setup_once κs a x y v w p q = let (o, l) = same_left (no_second p q) in (o, both l refl)

pub fosavalo_exchange_once : OneAnswer promised.fosavalo_exchange.ended fosavalo_exchange.Reads.Post
fosavalo_exchange_once κs a x y v w p q = let (o, l) = same_left (no_second p q) in (o, both l refl)

pub fosavalo_tick_once : OneAnswer promised.fosavalo_tick.ended fosavalo_tick.Reads.Post
fosavalo_tick_once κs a x y v w p q = let (o, i, n) = same_lent (no_second p q) in (o, both i (both refl (both n refl)))

pub fosavalo_tick_refusal_once : OneAnswer promised.fosavalo_tick_refusal.ended fosavalo_tick_refusal.Reads.Post
fosavalo_tick_refusal_once κs a x y v w p q = (no_second p q, refl)

pub fosavalo_route_tick_once : OneAnswer promised.fosavalo_route_tick.ended fosavalo_route_tick.Reads.Post
fosavalo_route_tick_once κs a x y v w p q = let (o, i, n) = same_lent (no_second p q) in (o, both i (both refl (both refl (both n refl))))

pub fosavalo_route_sample_once : OneAnswer promised.fosavalo_route_sample.ended fosavalo_route_sample.Reads.Post
fosavalo_route_sample_once κs a x y v w p q = let (o, l) = same_left (no_second p q) in (o, both refl (both refl (both l refl)))

pub fosavalo_log_append_once : OneAnswer promised.fosavalo_log_append.ended fosavalo_log_append.Reads.Post
fosavalo_log_append_once κs a x y v w p q = let (o, l) = same_left (no_second p q) in (o, both l refl)

pub fosavalo_log_count_once : OneAnswer promised.fosavalo_log_count.ended fosavalo_log_count.Reads.Post
fosavalo_log_count_once κs a x y v w p q = let (o, l) = same_left (no_second p q) in (o, both refl (both l refl))

pub fosavalo_log_record_once : OneAnswer promised.fosavalo_log_record.ended fosavalo_log_record.Reads.Post
fosavalo_log_record_once κs a x y v w p q = let (o, l) = same_left (no_second p q) in (o, both refl (both refl (both l refl)))

pub fosavalo_flags_once : OneAnswer promised.fosavalo_flags.ended fosavalo_flags.Reads.Post
fosavalo_flags_once κs a x y v w p q = let (o, l) = same_left (no_second p q) in (o, both refl (both refl (both refl (both l refl))))

pub fosavalo_log_check_once : OneAnswer promised.fosavalo_log_check.ended fosavalo_log_check.Reads.Post
fosavalo_log_check_once κs a x y v w p q = let (o, l) = same_left (no_second p q) in (o, both refl (both refl (both refl (both refl (both l refl)))))

pub fosavalo_pattern_expand_once : OneAnswer promised.fosavalo_pattern_expand.ended fosavalo_pattern_expand.Reads.Post
fosavalo_pattern_expand_once κs a x y v w p q = let (o, r, n) = same_buffers (no_second p q) in (o, both refl (both r (both n refl)))
