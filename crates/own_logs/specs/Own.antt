-- A log of our own: the record of every accepted tick of one run from set-up. Definitions only.
use Rattle.std.specs.Prelude.{cond, List, [], ◌∷◌, ◌++◌, ℕ}
use Rattle.outcome.specs.Outcomes.{is_done}
use Rattle.flight_log.specs.Runs.{log_in, ToAppend, after_all, records_of, at_first}
use Rattle.runs.specs.Runs.{Call, Ticks, Exchanges, tick_of, flying, left_by, start}

-- what is appended after a call: of an accepted tick its input and its answer; a refused call and an exchange have none
unfoldable pub keeps_of : List ℕ → Call → List ToAppend
unfolding flying
keeps_of image (Ticks t) = cond (is_done (tick_of image t).outcome) (record { input = t.input; answer = (tick_of image t).later.answer } ∷ []) []
keeps_of image (Exchanges segment) = []

unfoldable pub keeps_along : List ℕ → List Call → List ToAppend
unfolding keeps_of left_by
keeps_along image [] = []
keeps_along image (c ∷ calls) = keeps_of image c ++ keeps_along (left_by image c) calls

-- "every tick of one run": the records of a run's accepted ticks, in order
abbrev pub ticks_kept : List ℕ → List Call → List (List ℕ)
ticks_kept image calls = records_of (keeps_along image calls)

-- the log that our append makes of them in one buffer, whatever stands beyond it there
abbrev pub own_log : List ℕ → List ℕ → List Call → List ℕ
own_log setup beyond calls = log_in (after_all (at_first beyond) (keeps_along (start setup) calls))
