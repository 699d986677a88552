-- What append makes is a log, with one record more. Assumes nothing.
use Rattle.laws.proofs.Prelude.{◌≡◌, refl, sym, ap, ◌∙◌, true, List, [], ◌∷◌, ◌++◌, append_assoc, ℕ, zero, suc, ◌+◌, ◌-◌, ◌*◌, ◌≤◌, add-zero, mod-eq_of_lt, add-one, arith, le-leb, eq-eqb, length}
use Rattle.laws.proofs.Prelude.{take, drop, length-append, length-drop, take-append-drop, sets-eq, length-take-le, take-take, take_at, drop_at}
use lib.Seq.{take-append-le, drop-append-le}
use Rattle.words.{specs.Words.{four_bytes, word}, proofs.WordsBack.{word_bytes_of, four_after}}
use Rattle.flight_log.specs.{Form.{record_bytes, log_trailer_bytes, most_records, trailer_words, trailer, from_end, record_count, is_log}, Records.{bytes_at, records_from, records}, Entry.with_record}
use Rattle.flight_log.proofs.LogForm.{Taken}

-- ---- the trailer is read as it was written, whatever stands before it

from_end_after : (body : List ℕ) (n : ℕ) (back : ℕ) → back ≤ log_trailer_bytes → from_end (body ++ trailer n) back ≡ four_bytes (trailer n) (log_trailer_bytes - back)
unfolding from_end
from_end_after body n back h =
    let e : length (body ++ trailer n) - back ≡ length body + (log_trailer_bytes - back) = omega (arith, length-append body (trailer n)) in
    rw e (four_after body (trailer n) (log_trailer_bytes - back))

module _ (body : List ℕ) (n : ℕ) (few : n ≤ most_records) where
  count_made : record_count (body ++ trailer n) ≡ n
  unfolding word
  count_made = from_end_after body n 12 (omega arith) ∙ word_bytes_of (trailer_words n) 0 ∙ mod-eq_of_lt (omega arith)

  back_made : from_end (body ++ trailer n) 8 ≡ record_bytes * n
  unfolding word
  back_made = from_end_after body n 8 (omega arith) ∙ word_bytes_of (trailer_words n) 1 ∙ mod-eq_of_lt (omega arith)

  size_made : from_end (body ++ trailer n) 4 ≡ record_bytes
  unfolding word
  size_made = from_end_after body n 4 (omega arith) ∙ word_bytes_of (trailer_words n) 2

  pub is_log_made : length body ≡ record_bytes * n → is_log (body ++ trailer n) ≡ true
  unfolding is_log
  is_log_made h =
      let l = length (body ++ trailer n) in
      let e : l ≡ record_bytes * n + log_trailer_bytes = omega (arith, length-append body (trailer n)) in
      rw (count_made, back_made, size_made, le-leb log_trailer_bytes l (omega arith), le-leb n most_records few)
      (rw (eq-eqb (record_bytes * n) (record_bytes * n) refl, eq-eqb l (record_bytes * n + log_trailer_bytes) e))

-- ---- records by their place

-- those within the first of two lists are its own
within_first : (a b : List ℕ) (n i : ℕ) → record_bytes * (i + n) ≤ length a → records_from (a ++ b) n i ≡ records_from a n i
within_first a b zero i h = refl
within_first a b (suc n) i h =
    let k : record_bytes * i ≤ length a = omega arith in
    let l : record_bytes ≤ length (drop (record_bytes * i) a) = omega (arith, length-drop (record_bytes * i) a) in
    rw (drop-append-le (record_bytes * i) a b k, take-append-le record_bytes (drop (record_bytes * i) a) b l, within_first a b n (suc i) (omega arith))

-- one more comes last
one_last : (b : List ℕ) (n i : ℕ) → records_from b (suc n) i ≡ records_from b n i ++ bytes_at b (i + n) ∷ []
one_last b zero i = rw (add-zero i)
one_last b (suc n) i = let e : i + suc n ≡ suc i + n = omega arith in rw (one_last b n (suc i), e)

pub records_of_lem : (b : List ℕ) → is_log b ≡ true → records b ≡ records_from b (record_count b) 0
unfolding records
records_of_lem b e = rw e

-- ---- one append

module _ (buffer : List ℕ) (len : ℕ) (input answer : List ℕ) (t : Taken buffer len (length input) (length answer)) where
  abbrev n : ℕ
  n = record_count (take len buffer)

  abbrev at : ℕ
  at = len - log_trailer_bytes

  -- the log as append leaves it: the old one's records, the new record, the trailer
  made : take (len + record_bytes) (with_record buffer at (n + 1) input answer) ≡ take at buffer ++ (input ++ answer) ++ trailer (n + 1)
  made =
      let vs = input ++ answer ++ trailer (n + 1) in
      let l : length vs ≡ record_bytes + log_trailer_bytes = omega (arith, length-append (input ++ answer) (trailer (n + 1)), length-append input answer, t.input_length, t.answer_length) in
      let f : length (take at buffer) ≡ at = length-take-le at buffer (omega (arith, t.within)) in
      let e : length (take at buffer ++ vs) ≡ len + record_bytes = omega (arith, length-append (take at buffer) vs, t.len_is) in
      ap (take (len + record_bytes)) (sets-eq vs buffer at (omega (arith, t.room, t.len_is))) ∙ take_at (take at buffer ++ vs) (drop (at + length vs) buffer) (len + record_bytes) e
      ∙ sym (append_assoc (take at buffer) (input ++ answer) (trailer (n + 1)))

  -- the old log's records stand before the place of its trailer
  old : records (take len buffer) ≡ records_from (take at buffer) n 0
  unfolding records
  old =
      let log = take len buffer in
      let e : take at log ≡ take at buffer = take-take at len buffer (omega arith) in
      let f : length (take at buffer) ≡ at = length-take-le at buffer (omega (arith, t.within)) in
      rw t.log (ap (λ (b : List ℕ). records_from b n 0) (sym (take-append-drop at log)) ∙ rw e (within_first (take at buffer) (drop at log) n 0 (omega (arith, t.len_is))))

  -- "Reading back gives exactly the records appended, in order": one append is one record more, after all others
  pub one_more_record : let log = take (len + record_bytes) (with_record buffer at (n + 1) input answer) in
      (is_log log ≡ true) × (records log ≡ records (take len buffer) ++ (input ++ answer) ∷ [])
  one_more_record =
      let x = take at buffer in let r = input ++ answer in let w = trailer (n + 1) in
      let f : length x ≡ at = length-take-le at buffer (omega (arith, t.within)) in
      let g : length r ≡ record_bytes = omega (arith, length-append input answer, t.input_length, t.answer_length) in
      let few : n + 1 ≤ most_records = omega (arith, t.one_more) in
      let is = is_log_made (x ++ r) (n + 1) few (omega (arith, length-append x r, t.len_is)) in
      let last : bytes_at (x ++ (r ++ w)) (0 + n) ≡ r =
      ap (take record_bytes) (drop_at x (r ++ w) (record_bytes * (0 + n)) (omega (arith, t.len_is))) ∙ take_at r w record_bytes g in
      let all : records_from (x ++ (r ++ w)) (suc n) 0 ≡ records_from x n 0 ++ r ∷ [] =
      one_last (x ++ (r ++ w)) n 0 ∙ rw (within_first x (r ++ w) n 0 (omega (arith, t.len_is)), last) in
      rw made (
        is,
        records_of_lem (x ++ r ++ w) is ∙ ap (λ (m : ℕ). records_from (x ++ r ++ w) m 0) (count_made (x ++ r) (n + 1) few ∙ add-one n)
            ∙ ap (λ (b : List ℕ). records_from b (suc n) 0) (append_assoc x r w) ∙ all ∙ ap (λ (rs : List (List ℕ)). rs ++ r ∷ []) (sym old),
      )
