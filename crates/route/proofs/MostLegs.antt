-- Request Eight: what the limit of legs decides, and what it does not. Assumes nothing.
use Rattle.std.specs.Prelude.{Err}
use Rattle.laws.proofs.Prelude.{◌≡◌, true, List, ℕ, ◌≤◌, ◌<◌, arith, lt-ltb, le-ltb, ne_eqb, length}
use Rattle.outcome.{specs.{declared.Refusal.TheVariants.LegCount, Outcomes.{is_done, first_of, left, lent}}, proofs.Tables.in_turn}
use Rattle.lent_tick.specs.Tick.{tick_table, tick_refusal, tick_from}
use Rattle.route.specs.{Form.{route_trailer_bytes, most_legs, leg_count, form_table_to}, Entry.{route_refusal, route_call, route_call_to}}

-- ---- over any limit

pub within_both : (most more : ℕ) (image input route answer : List ℕ) → leg_count route ≤ most → leg_count route ≤ more
    → route_call_to most image input route answer ≡ route_call_to more image input route answer
within_both most more image input route answer p q = rw (le-ltb _ _ p, le-ltb _ _ q)

pub beyond : (most : ℕ) (route : List ℕ) → route_trailer_bytes ≤ length route → most < leg_count route → first_of (form_table_to most route) ≡ Err LegCount
beyond most route t h = rw (le-ltb _ _ t, ne_eqb (leg_count route) 0 (λ e. omega (arith, h, e)), lt-ltb _ _ h)

-- ---- the earlier release, of document 02's first request

abbrev EARLIER : ℕ
EARLIER = 8

-- "A stored route of up to 8 legs keeps its bytes and flies the same."
pub flies_the_same : (image input route answer : List ℕ) → leg_count route ≤ EARLIER → route_call image input route answer ≡ route_call_to EARLIER image input route answer
unfolding route_call route_refusal
flies_the_same image input route answer h = within_both most_legs EARLIER image input route answer (omega (arith, h)) h

-- "Ground tools of the earlier release refuse a longer one with 5 and show nothing of it": whatever its other bytes are
pub earlier_shows_nothing : (image input route answer : List ℕ) → is_done (tick_refusal image (length input) (length answer)) ≡ true
    → route_trailer_bytes ≤ length route → EARLIER < leg_count route → route_call_to EARLIER image input route answer ≡ left (Err LegCount) (lent image answer)
unfolding tick_from tick_refusal
earlier_shows_nothing image input route answer d t h =
    rw (in_turn (tick_table image (length input) (length answer)) (form_table_to EARLIER route), d, beyond EARLIER route t h)
