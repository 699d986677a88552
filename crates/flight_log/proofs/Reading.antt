-- Over any sequence of appends from the empty log: what is read back, and that none of it is refused. Assumes nothing.
use Rattle.laws.proofs.Prelude.{◌≡◌, refl, sym, ap, ◌∙◌, true, false, cond, List, [], ◌∷◌, ◌++◌, append_assoc, append-nil, ℕ, zero, suc, ◌+◌, ◌<◌, zero-add, add-zero, add-one, arith, lt-ltb, le-ltb}
use Rattle.laws.proofs.Prelude.{length, take, get_or, replicate}
use Rattle.outcome.{specs.Outcomes.{is_done, Filled}, proofs.Tables.either}
use Rattle.flight_log.specs.{Form.{record_bytes, empty_log, from_end, record_count, is_log}, Records.{bytes_at, records_from, records, has_record, record_at, place_after, handed_out}}
use Rattle.flight_log.specs.{Entry.{append_refusal, append_call}, Runs.{LogBuffer, log_in, ToAppend, after_one, kept_by, after_all, kept_along, NoneRefused, records_of, at_first}}
use Rattle.flight_log.proofs.{LogForm.taken, Made.{records_of_lem, one_more_record}}

-- ---- one append, accepted or refused, and any number of them

-- a log, whose records are these
abbrev Keeps : List ℕ → List (List ℕ) → Type 0
Keeps log rs = (is_log log ≡ true) × (records log ≡ rs)

one : (h : LogBuffer) (g : ToAppend) → is_log (log_in h) ≡ true → Keeps (log_in (after_one h g)) (records (log_in h) ++ kept_by h g)
unfolding append_call
one h g e =
    either
    (λ (l : Filled). Keeps (take (cond (is_done l.outcome) (h.len + record_bytes) h.len) l.later) (records (log_in h) ++ cond (is_done l.outcome) ((g.input ++ g.answer) ∷ []) []))
    (append_refusal h.buffer h.len (length g.input) (length g.answer))
    (λ d. one_more_record h.buffer h.len g.input g.answer (taken h.buffer h.len (length g.input) (length g.answer) d))
    (λ d. rw d (e, sym (append-nil (records (log_in h)))))

-- after any appends on a log: a log, with the old records and then those kept
pub after_appends : (h : LogBuffer) (appends : List ToAppend) → is_log (log_in h) ≡ true → Keeps (log_in (after_all h appends)) (records (log_in h) ++ kept_along h appends)
unfolding after_all kept_along
after_appends h [] e = (e, sym (append-nil (records (log_in h))))
after_appends h (g ∷ more) e =
    let o = one h g e in let r = after_appends (after_one h g) more o.0 in
    (r.0, r.1 ∙ ap (λ (rs : List (List ℕ)). rs ++ kept_along (after_one h g) more) o.1 ∙ append_assoc (records (log_in h)) (kept_by h g) (kept_along (after_one h g) more))

-- ---- reading a log

-- from a place on, with m records left: these, and then none for ever
from_here : (b : List ℕ) (k m i : ℕ) → is_log b ≡ true → record_count b ≡ i + m → handed_out b i (m + k) ≡ records_from b m i ++ replicate k []
unfolding handed_out record_at place_after has_record
from_here b k zero i l e = rw (zero-add k) (none k)
  where
    none : (k : ℕ) → handed_out b i k ≡ replicate k []
    none zero = refl
    none (suc k) = rw (l, le-ltb i (record_count b) (omega arith), none k)
from_here b k (suc m) i l e =
    let s : suc m + k ≡ suc (m + k) = omega arith in
    rw (s, l, lt-ltb i (record_count b) (omega arith), add-one i, from_here b k m (suc i) l (omega arith))

length_from : (b : List ℕ) (n i : ℕ) → length (records_from b n i) ≡ n
length_from b zero i = refl
length_from b (suc n) i = ap suc (length_from b n (suc i))

pub records_count : (b : List ℕ) → is_log b ≡ true → length (records b) ≡ record_count b
records_count b l = rw (records_of_lem b l) (length_from b (record_count b) 0)

-- the record at a place is the list's
at_from : (b : List ℕ) (n i j : ℕ) → j < n → get_or (records_from b n i) j [] ≡ bytes_at b (i + j)
at_from b zero i j h = absurd (omega (arith, h))
at_from b (suc n) i zero h = rw (add-zero i)
at_from b (suc n) i (suc j) h = let e : i + suc j ≡ suc i + j = omega arith in rw e (at_from b n (suc i) j (omega arith))

pub record_is : (b : List ℕ) (i : ℕ) → is_log b ≡ true → i < record_count b → record_at b i ≡ get_or (records b) i []
unfolding record_at has_record
record_is b i l h = rw (l, lt-ltb i (record_count b) h, records_of_lem b l, at_from b (record_count b) 0 i h, zero-add i)

-- "handing out one record at a time .. and then says that there is none": all records in order, and then none for ever
pub reader_hands_out : (b : List ℕ) → is_log b ≡ true → (k : ℕ) → handed_out b 0 (length (records b) + k) ≡ records b ++ replicate k []
reader_hands_out b l k =
    let n = record_count b in
    rw (records_count b l, records_of_lem b l) (from_here b k n 0 l (sym (zero-add n)))

-- a reader made on what is no log hands out nothing
pub nothing_of_no_log : (b : List ℕ) (i n : ℕ) → is_log b ≡ false → handed_out b i n ≡ replicate n []
unfolding handed_out record_at place_after has_record
nothing_of_no_log b i zero e = refl
nothing_of_no_log b i (suc n) e = rw (e, nothing_of_no_log b i n e)

-- ---- "An empty log is the trailer 0, 0, 108."

empty_is : (is_log empty_log ≡ true) × (records empty_log ≡ [])
unfolding is_log from_end records
empty_is = (refl, refl)

module _ (beyond : List ℕ) (appends : List ToAppend) where
  abbrev log : List ℕ
  log = log_in (after_all (at_first beyond) appends)

  abbrev kept : List (List ℕ)
  kept = kept_along (at_first beyond) appends

  made : Keeps log kept
  made = let a = after_appends (at_first beyond) appends empty_is.0 in (a.0, a.1 ∙ ap (λ (rs : List (List ℕ)). rs ++ kept) empty_is.1)

  -- what append made is a log, so neither append nor the reader refuses it for its bytes
  pub never_refused : is_log log ≡ true
  never_refused = made.0

  pub records_kept : records log ≡ kept
  records_kept = made.1

  -- "Reading back gives exactly the records appended, in order, and then says that there is none." Appends that were refused may stand among them.
  pub reading_back : (k : ℕ) → handed_out log 0 (length kept + k) ≡ kept ++ replicate k []
  reading_back k = rw records_kept at (reader_hands_out log made.0 k)

pub kept_all : (h : LogBuffer) (appends : List ToAppend) → NoneRefused h appends → kept_along h appends ≡ records_of appends
unfolding NoneRefused kept_along records_of
kept_all h [] a = refl
kept_all h (g ∷ more) a = rw (kept_all (after_one h g) more a.1, a.0)

-- and if none was: all that was given
pub reading_back_all : (beyond : List ℕ) (appends : List ToAppend) → NoneRefused (at_first beyond) appends → (k : ℕ)
    → let rs = records_of appends in handed_out (log_in (after_all (at_first beyond) appends)) 0 (length rs + k) ≡ rs ++ replicate k []
reading_back_all beyond appends a k = rw (kept_all (at_first beyond) appends a) at (reading_back beyond appends k)
