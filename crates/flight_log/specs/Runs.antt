-- Any sequence of appends, each on the buffer and the length that the last one left. Definitions only.
use Rattle.std.specs.Prelude.{ℕ, ◌+◌, ◌≡◌, true, cond, List, [], ◌∷◌, ◌++◌, take}
use Rattle.outcome.specs.Outcomes.{is_done, Filled}
use Rattle.flight_log.specs.Form.{record_bytes, log_trailer_bytes, empty_log}
use Rattle.flight_log.specs.Entry.{append_call}

-- a buffer, and the length of the log at its start
pub record LogBuffer : Type 0 where
  pub buffer : List ℕ
  pub len : ℕ

abbrev pub log_buffer : List ℕ → ℕ → LogBuffer
log_buffer buffer len = record { buffer = buffer; len = len }

abbrev pub log_in : LogBuffer → List ℕ
log_in h = take h.len h.buffer

-- what an append is given beside them
pub record ToAppend : Type 0 where
  pub input : List ℕ
  pub answer : List ℕ

abbrev pub appended : LogBuffer → ToAppend → Filled
appended h g = append_call h.buffer h.len g.input g.answer

-- what an append leaves, and the record that it kept: none if it was refused
abbrev pub after_one : LogBuffer → ToAppend → LogBuffer
after_one h g = log_buffer (appended h g).later (cond (is_done (appended h g).outcome) (h.len + record_bytes) h.len)

abbrev pub kept_by : LogBuffer → ToAppend → List (List ℕ)
kept_by h g = cond (is_done (appended h g).outcome) ((g.input ++ g.answer) ∷ []) []

unfoldable pub after_all : LogBuffer → List ToAppend → LogBuffer
after_all h [] = h
after_all h (g ∷ more) = after_all (after_one h g) more

unfoldable pub kept_along : LogBuffer → List ToAppend → List (List ℕ)
kept_along h [] = []
kept_along h (g ∷ more) = kept_by h g ++ kept_along (after_one h g) more

-- "each accepted tick kept": none of the appends is refused
unfoldable pub NoneRefused : LogBuffer → List ToAppend → Type 0
NoneRefused h [] = Unit
NoneRefused h (g ∷ more) = (is_done (appended h g).outcome ≡ true) × NoneRefused (after_one h g) more

-- the records of what was given
unfoldable pub records_of : List ToAppend → List (List ℕ)
records_of [] = []
records_of (g ∷ more) = (g.input ++ g.answer) ∷ records_of more

-- the empty log at the start of a buffer, whatever stands beyond it
abbrev pub at_first : List ℕ → LogBuffer
at_first beyond = log_buffer (empty_log ++ beyond) log_trailer_bytes
