-- Each stick's filter after any run of desk calls is the Rust's filter after its steps and resets, and so within its limits. Assumes nothing.
use Rattle.laws.proofs.Prelude.{◌≡◌, refl, sym, ap, subst, ◌∙◌, Bool, List, [], ◌∷◌, ◌++◌, ℕ, Float, length}
use Rattle.words.specs.Words.{float, vec}
use Rattle.image.specs.Layout.{DT}
use Rattle.outcome.{specs.Outcomes.Left, proofs.Tables.by_test_lem}
use Rattle.relay_adrc.{specs.{declared.filter.CommandFilter.CommandFilter, Filter.{Event, Step, Reset, filter_new, after_event, after_events}}, proofs.FilterLimits.{Limit, Held, fresh_held}}
use Rattle.desk.specs.{declared.filters.Desk.Desk, Filters.{desk_bytes, desk_at, new_at, desk_set_up, desk_step, desk_centre}}
use Rattle.desk.specs.Entry.{DeskOutcome, desk_done, LentToDesk, moved, tick_refusal_at, desk_tick_call}
use Rattle.desk.specs.Runs.{Stick, Heading, Turn, Zoom, place, filter_of, omega_given, mag_limit, rate_limit, DeskCall, Ticks, Centres, desk_by, desk_after, desk_start, events_by, events_along}
use Rattle.desk.proofs.{Read.{set_up_fits, stepped_fits, centred_fits, desk_length, read_again}, DeskCalls.centred}

-- ---- one call

pub stepped_by : (s : Stick) (d : Desk) (sticks : List ℕ) (dt : Float) → filter_of s (desk_step d (vec sticks 0) dt) ≡ after_event (filter_of s d) (Step (float sticks (place s)) dt)
unfolding desk_step after_event vec
stepped_by Heading d sticks dt = refl
stepped_by Turn d sticks dt = refl
stepped_by Zoom d sticks dt = refl

reset_by : (s : Stick) (d : Desk) → filter_of s (desk_centre d) ≡ after_event (filter_of s d) Reset
unfolding after_event
reset_by Heading d = refl
reset_by Turn d = refl
reset_by Zoom d = refl

-- A call leaves a desk of its length, on which each stick's filter had its events.
record Moves (s : Stick) (es : List Event) (desk later : List ℕ) : Type 0 where
  pub size : length later ≡ desk_bytes
  pub filter : filter_of s (desk_at later) ≡ after_events (filter_of s (desk_at desk)) es

call_moves : (s : Stick) (desk : List ℕ) (c : DeskCall) → length desk ≡ desk_bytes → Moves s (events_by s c) desk (desk_by desk c)
unfolding desk_by events_by after_events desk_tick_call moved
call_moves s desk Centres p =
    subst (λ (l : Left DeskOutcome (List ℕ)). Moves s (events_by s Centres) desk l.later) (sym (centred desk p))
    record { size = desk_length (desk_centre (desk_at desk)); filter = ap (filter_of s) (read_again _ (centred_fits desk)) ∙ reset_by s (desk_at desk) }
call_moves s desk (Ticks t) p =
    by_test_lem (λ (l : Left DeskOutcome LentToDesk). Moves s (events_by s (Ticks t)) desk l.later.desk) (done (length desk))
    (λ e. let again = ap (filter_of s) (read_again _ (stepped_fits desk _ _)) ∙ stepped_by s (desk_at desk) t.sticks (float t.input DT) in
    rw (ap done (sym p) ∙ e) record { size = desk_length (moved desk t.sticks t.input); filter = again })
    (λ e. rw (ap done (sym p) ∙ e) record { size = p; filter = refl })
  where
    refusal : ℕ → DeskOutcome
    refusal n = tick_refusal_at t.course n (length t.sticks) t.image (length t.input) (length t.answer)

    done : ℕ → Bool
    done n = desk_done (refusal n)

-- ---- one after another

run_append : (f : CommandFilter) (es fs : List Event) → after_events (after_events f es) fs ≡ after_events f (es ++ fs)
unfolding after_events
run_append f [] fs = refl
run_append f (e ∷ es) fs = run_append (after_event f e) es fs

pub stick_runs : (s : Stick) (desk : List ℕ) (calls : List DeskCall) → length desk ≡ desk_bytes
    → filter_of s (desk_at (desk_after desk calls)) ≡ after_events (filter_of s (desk_at desk)) (events_along s calls)
unfolding desk_after events_along after_events
stick_runs s desk [] p = refl
stick_runs s desk (c ∷ calls) p =
    let m = call_moves s desk c p in
    stick_runs s (desk_by desk c) calls m.size
    ∙ ap (λ (f : CommandFilter). after_events f (events_along s calls)) m.filter
    ∙ run_append (filter_of s (desk_at desk)) (events_by s c) (events_along s calls)

pub size_kept : (desk : List ℕ) (calls : List DeskCall) → length desk ≡ desk_bytes → length (desk_after desk calls) ≡ desk_bytes
unfolding desk_after
size_kept desk [] p = p
size_kept desk (c ∷ calls) p = size_kept (desk_by desk c) calls (call_moves Heading desk c p).size

-- ---- from set-up on

pub start_length : (setup : List ℕ) → length (desk_start setup) ≡ desk_bytes
unfolding desk_start
start_length setup = desk_length (desk_set_up setup)

pub fresh : (s : Stick) (setup : List ℕ) → filter_of s (desk_at (desk_start setup)) ≡ filter_new (omega_given s setup) (mag_limit s setup) (rate_limit s setup)
unfolding desk_start desk_set_up new_at
fresh Heading setup = ap (filter_of Heading) (read_again _ (set_up_fits setup))
fresh Turn setup = ap (filter_of Turn) (read_again _ (set_up_fits setup))
fresh Zoom setup = ap (filter_of Zoom) (read_again _ (set_up_fits setup))

-- "For finite magnitude and rate limits at or above zero, each value and each rate stays within its limit after any sequence of stick bits, dt bits and
-- resets." Refused ticks are among the calls, and the limits are those that set-up was given.
pub sticks_held : (s : Stick) (setup : List ℕ) (calls : List DeskCall) → Limit (mag_limit s setup) → Limit (rate_limit s setup)
    → Held (filter_of s (desk_at (desk_after (desk_start setup) calls)))
sticks_held s setup calls m r =
    subst Held (sym (stick_runs s (desk_start setup) calls (start_length setup) ∙ ap (λ (f : CommandFilter). after_events f (events_along s calls)) (fresh s setup)))
    (fresh_held (omega_given s setup) (mag_limit s setup) (rate_limit s setup) (events_along s calls) m r)
