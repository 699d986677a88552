-- Each stick by the limits that set-up was given, each of its numbers by its own limit alone; and so the two words that are flown. Assumes nothing.
use Rattle.laws.proofs.Prelude.{◌≡◌, sym, ap, subst, ◌∙◌, true, List, ℕ, Float, neg, length, no}
use Rattle.words.specs.Words.{float}
use Rattle.image.specs.Layout.{YAW, yaw_rate_word, DT}
use Rattle.outcome.{specs.Outcomes.Left, proofs.Tables.by_test_lem}
use Rattle.relay_math.specs.F32.{Within}
use Rattle.relay_adrc.{specs.{declared.filter.CommandFilter.CommandFilter, Filter.{Step, filter_new, after_event, after_events}}, proofs.FilterLimits.{Limit, limits_kept, value_within, fresh_within}}
use Rattle.lent_tick.proofs.TickLeaves.{taken_unbroken}
use Rattle.desk.specs.{Filters.desk_at, Entry.{DeskOutcome, desk_done, LentToDesk, moved, tick_refusal_at, desk_tick_call}}
use Rattle.desk.specs.Runs.{Stick, Heading, Turn, place, filter_of, omega_given, mag_limit, rate_limit, DeskTick, DeskCall, desk_after, desk_start, events_along}
use Rattle.desk.proofs.{DeskTickLeaves.also_a_tick, DeskCalls.done_asked, Held.{stick_runs, start_length, fresh, stepped_by}, HeadingWritten.flown_heading}

module _ (s : Stick) (setup : List ℕ) (calls : List DeskCall) where
  abbrev filter : CommandFilter
  filter = filter_of s (desk_at (desk_after (desk_start setup) calls))

  abbrev given : CommandFilter
  given = filter_new (omega_given s setup) (mag_limit s setup) (rate_limit s setup)

  ran : filter ≡ after_events given (events_along s calls)
  ran = stick_runs s (desk_start setup) calls (start_length setup) ∙ ap (λ (f : CommandFilter). after_events f (events_along s calls)) (fresh s setup)

  -- the limits that a stick is held to are set-up's words, after any calls
  pub limits_stay : (filter.max_mag ≡ mag_limit s setup) × (filter.max_rate ≡ rate_limit s setup)
  limits_stay = rw ran (limits_kept given (events_along s calls))

  -- "each value and each rate stays within its limit": the value for any rate limit, +infinity and NaN among them, and the rate for any magnitude limit
  pub sticks_within : (Limit (mag_limit s setup) → Within (neg (mag_limit s setup)) (mag_limit s setup) filter.y)
      × (Limit (rate_limit s setup) → Within (neg (rate_limit s setup)) (rate_limit s setup) filter.yd)
  sticks_within = rw ran (fresh_within (omega_given s setup) (mag_limit s setup) (rate_limit s setup) (events_along s calls))

  -- a step's value is within the limit too
  stepped : (sticks input : List ℕ) → Limit (mag_limit s setup)
      → Within (neg (mag_limit s setup)) (mag_limit s setup) (filter_of s (moved (desk_after (desk_start setup) calls) sticks input)).y
  unfolding moved
  stepped sticks input =
      let e = Step (float sticks (place s)) (float input DT) in
      rw (stepped_by s (desk_at (desk_after (desk_start setup) calls)) sticks (float input DT))
      (subst (λ (m : Float). Limit m → Within (neg m) m (after_event filter e).y) limits_stay.0 (value_within filter e))

-- What an accepted tick leaves in the input, after any calls: the heading within the first stick's limit of set-up, its rate within the second's.
pub flown_within : (setup : List ℕ) (calls : List DeskCall) (t : DeskTick)
    → let call = desk_tick_call t.course (desk_after (desk_start setup) calls) t.sticks t.image t.input t.answer in
    desk_done call.outcome ≡ true
    → (Limit (mag_limit Heading setup) → Within (neg (mag_limit Heading setup)) (mag_limit Heading setup) (float call.later.input YAW))
    × (Limit (mag_limit Turn setup) → Within (neg (mag_limit Turn setup)) (mag_limit Turn setup) (float call.later.input yaw_rate_word))
unfolding desk_tick_call
flown_within setup calls t =
    by_test_lem (λ (l : Left DeskOutcome LentToDesk). desk_done l.outcome ≡ true → Flown l.later.input)
    (desk_done (tick_refusal_at t.course (length desk) (length t.sticks) t.image (length t.input) (length t.answer)))
    (λ e d.
    let a = also_a_tick t.course t.image (length t.input) (length t.answer) (done_asked t.course desk t.sticks t.image t.input t.answer e) in
    let i = (taken_unbroken t.image (length t.input) (length t.answer) a).1 in
    let w = flown_heading desk t.sticks t.input i in
    rw (w.0, w.1) (stepped Heading setup calls t.sticks t.input, stepped Turn setup calls t.sticks t.input))
    (λ e d. no (sym e ∙ d))
  where
    desk : List ℕ
    desk = desk_after (desk_start setup) calls

    In : Stick → Float → Type 0
    In s x = Limit (mag_limit s setup) → Within (neg (mag_limit s setup)) (mag_limit s setup) x

    Flown : List ℕ → Type 0
    Flown input = In Heading (float input YAW) × In Turn (float input yaw_rate_word)
