-- The route tick and the sample of a route on lent bytes: what is refused, and what a call leaves (request One of document 02). Definitions only.
use Rattle.std.specs.Prelude.{ℕ, List, ◌∷◌, ◌++◌, Float, length}
use Rattle.words.specs.Words.{vec, floats_of_vec, words_of, bytes_of}
use Rattle.joint_tick.specs.declared.stages.Reference.{Reference}
use Rattle.outcome.specs.Outcomes.{Outcome}
use Rattle.outcome.specs.declared.Refusal.TheVariants.{AnswerLength}
use Rattle.outcome.specs.Outcomes.{first_of, differs, left_unless, Filled, Called}
use Rattle.lent_tick.specs.Tick.{tick_table, tick_from}
use Rattle.route.specs.declared.legs.Sampled.{Sampled}
use Rattle.route.specs.Form.{leg_count, form_table_to, form_table}
use Rattle.route.specs.Legs.{sample_on, reference_on}

-- 1, 2, 3, 4 as at a tick, and then the route's own
unfoldable pub route_refusal : List ℕ → ℕ → ℕ → List ℕ → Outcome
route_refusal image inputLen answerLen route = first_of (tick_table image inputLen answerLen ++ form_table route)

-- where a route tick's references come from: the leg flown at each time
unfoldable pub on_route : List ℕ → Float → Reference
unfolding leg_count reference_on
on_route route time = reference_on route (leg_count route) time

-- the tick of document 01 with the route's sample in place of the segment's
unfoldable pub route_call : List ℕ → List ℕ → List ℕ → List ℕ → Called
unfolding on_route
route_call image input route answer = tick_from (on_route route) (route_refusal image (length input) (length answer) route) image input answer

-- ---- where the craft should be, on a route at a time

abbrev pub sample_byte_count : ℕ
sample_byte_count = 52

-- the leg flown, counted from 0, then position, velocity, acceleration and jerk
abbrev pub words_of_sample : Sampled → List ℕ
words_of_sample s =
    let p = s.sample in
    s.leg ∷ words_of (floats_of_vec p.pos) ++ words_of (floats_of_vec p.vel) ++ words_of (floats_of_vec p.acc) ++ words_of (floats_of_vec p.jerk)

unfoldable pub sample_bytes : Sampled → List ℕ
sample_bytes s = bytes_of (words_of_sample s)

-- 3 for the sample's length, and then the route's own
unfoldable pub sample_refusal : List ℕ → ℕ → Outcome
sample_refusal route sampleLen = first_of ((differs sampleLen sample_byte_count, AnswerLength) ∷ form_table route)

unfoldable pub sample_call : List ℕ → Float → List ℕ → Filled
unfolding sample_bytes
sample_call route time sample = left_unless (sample_refusal route (length sample)) (sample_bytes (sample_on route (leg_count route) time)) sample

-- ---- what the theorems in proofs/ speak of

-- the same call with another limit of legs
abbrev pub route_call_to : ℕ → List ℕ → List ℕ → List ℕ → List ℕ → Called
route_call_to most image input route answer =
    tick_from (on_route route) (first_of (tick_table image (length input) (length answer) ++ form_table_to most route)) image input answer

-- the acceleration and the jerk that a sample's bytes tell
abbrev pub reference_told : List ℕ → Reference
reference_told sample = record { acc = vec sample 7; jerk = vec sample 10 }
