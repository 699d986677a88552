-- A log in bytes (request Two of document 02): "records of 108 bytes (tick input, then answer) and a trailer of three words: count, bytes back to the
-- first record, and 108. An empty log is the trailer 0, 0, 108." Definitions only.
use Rattle.std.specs.Prelude.{ℕ, ◌+◌, ◌-◌, ◌*◌, Bool, ◌&&◌, List, [], ◌∷◌, eqb, leb, length}
use Rattle.words.specs.Words.{four_bytes, bytes_of}
use Rattle.image.specs.Layout.{input_bytes, answer_bytes}

abbrev pub record_bytes : ℕ
record_bytes = input_bytes + answer_bytes

abbrev pub log_trailer_bytes : ℕ
log_trailer_bytes = 12

abbrev pub most_records : ℕ
most_records = 65535

-- ---- the trailer of n records, and the empty log

abbrev pub trailer_words : ℕ → List ℕ
trailer_words n = n ∷ record_bytes * n ∷ record_bytes ∷ []

abbrev pub trailer : ℕ → List ℕ
trailer n = bytes_of (trailer_words n)

abbrev pub empty_log : List ℕ
empty_log = trailer 0

-- ---- the trailer is the last 12 bytes, whatever the length

-- the word that starts so many bytes before the end
unfoldable pub from_end : List ℕ → ℕ → ℕ
from_end b back = four_bytes b (length b - back)

abbrev pub record_count : List ℕ → ℕ
record_count b = from_end b log_trailer_bytes

-- ---- "8 if the log's length .. is below 12, the last word isn't 108, the count is above 65,535, the distance back isn't 108 times it, or the length
-- isn't 12 more"

unfoldable pub is_log : List ℕ → Bool
is_log b =
    let n = record_count b in
    leb log_trailer_bytes (length b) && eqb (from_end b 4) record_bytes && leb n most_records && eqb (from_end b 8) (record_bytes * n)
    && eqb (length b) (record_bytes * n + log_trailer_bytes)
