-- The calls on a log: what is refused, and what a call leaves in the buffer that it may write. Definitions only.
use Rattle.std.specs.Prelude.{ℕ, ◌+◌, ◌-◌, not, List, [], ◌∷◌, ◌++◌, eqb, ltb, length, take}
use Rattle.std.proofs.lemmas.List.Edits.{sets}
use Rattle.words.specs.Words.{bytes_of}
use Rattle.image.specs.Layout.{input_bytes, answer_bytes}
use Rattle.outcome.specs.Outcomes.{Outcome}
use Rattle.outcome.specs.declared.Refusal.TheVariants.{InputLength, AnswerLength, BrokenLog, NoRoom, NoRecord, RecordLength}
use Rattle.outcome.specs.Outcomes.{Table, first_of, differs, left_unless, Filled}
use Rattle.flight_log.specs.Form.{record_bytes, log_trailer_bytes, most_records, trailer, record_count, is_log}
use Rattle.flight_log.specs.Records.{has_record, record_at}

-- "2 and 3 for a wrong input or answer length; then 8 if the log's length exceeds the buffer" or the bytes of that length are no log; "then 9 if the
-- buffer has under 108 bytes beyond the log or the count is 65,535"
abbrev pub append_table : List ℕ → ℕ → ℕ → ℕ → Table
append_table buffer len inputLen answerLen =
    (differs inputLen input_bytes, InputLength)
    ∷ (differs answerLen answer_bytes, AnswerLength)
    ∷ (ltb (length buffer) len, BrokenLog)
    ∷ (not (is_log (take len buffer)), BrokenLog)
    ∷ (ltb (length buffer - len) record_bytes, NoRoom)
    ∷ (eqb (record_count (take len buffer)) most_records, NoRoom)
    ∷ []

unfoldable pub append_refusal : List ℕ → ℕ → ℕ → ℕ → Outcome
append_refusal buffer len inputLen answerLen = first_of (append_table buffer len inputLen answerLen)

-- from byte `at` on a record, and after it the trailer of n records; every other byte as it was
abbrev pub with_record : List ℕ → ℕ → ℕ → List ℕ → List ℕ → List ℕ
with_record buffer at n input answer = sets buffer at (input ++ answer ++ trailer n)

-- "It overwrites the old trailer with the record, writes a new one after it and changes no other byte."
unfoldable pub append_call : List ℕ → ℕ → List ℕ → List ℕ → Filled
append_call buffer len input answer =
    left_unless (append_refusal buffer len (length input) (length answer)) (with_record buffer (len - log_trailer_bytes) (record_count (take len buffer) + 1) input answer) buffer

-- the count as a word, into 4 bytes
abbrev pub count_table : List ℕ → ℕ → Table
count_table log countLen = (differs countLen 4, InputLength) ∷ (not (is_log log), BrokenLog) ∷ []

unfoldable pub count_call : List ℕ → List ℕ → Filled
count_call log count = left_unless (first_of (count_table log (length count))) (bytes_of (record_count log ∷ [])) count

-- the record at a place, into as many bytes
abbrev pub record_table : List ℕ → ℕ → ℕ → Table
record_table log place bufferLen = (differs bufferLen record_bytes, RecordLength) ∷ (not (is_log log), BrokenLog) ∷ (not (has_record log place), NoRecord) ∷ []

unfoldable pub record_call : List ℕ → ℕ → List ℕ → Filled
record_call log place buffer = left_unless (first_of (record_table log place (length buffer))) (record_at log place) buffer
