-- The records of a log, and what a reader at a place hands out. Definitions only.
use Rattle.std.specs.Prelude.{ℕ, zero, suc, ◌+◌, ◌*◌, Bool, ◌&&◌, cond, List, [], ◌∷◌, ltb, take, drop}
use Rattle.flight_log.specs.Form.{record_bytes, record_count, is_log}

-- the bytes of record number i, counted from 0
abbrev pub bytes_at : List ℕ → ℕ → List ℕ
bytes_at b i = take record_bytes (drop (record_bytes * i) b)

-- n records from number i on
abbrev pub records_from : List ℕ → ℕ → ℕ → List (List ℕ)
records_from b zero i = []
records_from b (suc n) i = bytes_at b i ∷ records_from b n (suc i)

-- all of a log's; bytes that are no log have none
unfoldable pub records : List ℕ → List (List ℕ)
records b = cond (is_log b) (records_from b (record_count b) 0) []

-- ---- the reader

unfoldable pub has_record : List ℕ → ℕ → Bool
has_record b i = is_log b && ltb i (record_count b)

-- what is handed out at a place: the record, or no byte where there is none
unfoldable pub record_at : List ℕ → ℕ → List ℕ
record_at b i = cond (has_record b i) (bytes_at b i) []

-- where the reader stands then
unfoldable pub place_after : List ℕ → ℕ → ℕ
place_after b i = cond (has_record b i) (i + 1) i

-- what is handed out by the next n readings from a place on
unfoldable pub handed_out : List ℕ → ℕ → ℕ → List (List ℕ)
handed_out b i zero = []
handed_out b i (suc n) = record_at b i ∷ handed_out b (place_after b i) n
