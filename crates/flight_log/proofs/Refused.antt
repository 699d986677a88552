-- What is refused, by append and by the reader alike; and what a call leaves as it was. Assumes nothing.
use Rattle.std.specs.Prelude.{Err}
use Rattle.laws.proofs.Prelude.{◌≡◌, refl, sym, ◌⊎◌, inl, inr, ◌↔◌, Bool, true, false, not, List, [], ◌∷◌, ◌++◌, ℕ, ◌+◌, ◌-◌, ◌≤◌, ◌<◌, arith, ltb-true, lt-ltb, ltb, eqb, length, take, get_or}
use Rattle.laws.proofs.Prelude.{length-append, no}
use lib.Seq.{take-length}
use Rattle.words.{specs.Words.bytes_of, proofs.Written.sets_other}
use Rattle.image.specs.Layout.{input_bytes, answer_bytes}
use Rattle.outcome.specs.{declared.Refusal.TheVariants.{BrokenLog, NoRoom, PassThrough}, Outcomes.{Outcome, is_done, first_of, left, Filled}}
use Rattle.outcome.proofs.Tables.{never_given, refused_keeps, either}
use Rattle.flight_log.specs.Form.{record_bytes, log_trailer_bytes, most_records, trailer, empty_log, from_end, record_count, is_log}
use Rattle.flight_log.specs.Entry.{append_table, append_refusal, append_call, count_table, record_table}
use Rattle.flight_log.proofs.LogForm.{Taken, taken}

-- ---- "The reader, on a whole slice, gives 8 alike."

abbrev eight : Bool → Bool → Bool → Bool → Outcome
eight u v x y = first_of ((u, BrokenLog) ∷ (not v, BrokenLog) ∷ (x, NoRoom) ∷ (y, NoRoom) ∷ [])

broken : (u v x y : Bool) → eight u v x y ≡ Err BrokenLog → (u ≡ true) ⊎ (v ≡ false)
broken true v x y e = inl refl
broken false false x y e = inr refl
broken false true true y e = cc
broken false true false true e = cc
broken false true false false e = cc

breaks : (u v x y : Bool) → (u ≡ true) ⊎ (v ≡ false) → eight u v x y ≡ Err BrokenLog
breaks true v x y h = refl
breaks false false x y h = refl
breaks false true x y (inl e) = no e
breaks false true x y (inr e) = no (sym e)

-- append gives 8 exactly if the length exceeds the buffer or the bytes of that length are no log, for which the reader gives it (`count_table`, `record_table`)
pub same_refusal : (buffer : List ℕ) (len : ℕ) (input answer : List ℕ) → length input ≡ input_bytes → length answer ≡ answer_bytes
    → (append_refusal buffer len (length input) (length answer) ≡ Err BrokenLog) ↔ ((length buffer < len) ⊎ (is_log (take len buffer) ≡ false))
unfolding append_refusal
same_refusal buffer len input answer h k =
    let log = take len buffer in let u = ltb (length buffer) len in let x = ltb (length buffer - len) record_bytes in
    let y = eqb (record_count log) most_records in
    rw (h, k) (
      λ e. elim (broken u (is_log log) x y e) [ inl l ↦ inl (ltb-true (length buffer) len l) | inr r ↦ inr r ],
      λ o. breaks u (is_log log) x y (elim o [ inl l ↦ inl (lt-ltb (length buffer) len l) | inr r ↦ inr r ]),
    )

-- so on a whole slice they give it for the same bytes
pub same_on_a_whole_slice : (log input answer : List ℕ) → length input ≡ input_bytes → length answer ≡ answer_bytes
    → (append_refusal log (length log) (length input) (length answer) ≡ Err BrokenLog) ↔ (is_log log ≡ false)
same_on_a_whole_slice log input answer h k =
    let s = same_refusal log (length log) input answer h k in (λ e. elim (s.0 e) [ inl l ↦ absurd (omega (arith, l)) | inr r ↦ rw take-length at r ], λ r. s.1 (inr (rw take-length r)))

-- ---- at work

pub no_bytes : is_log [] ≡ false
unfolding is_log from_end
no_bytes = refl

pub empty_log_lem : is_log empty_log ≡ true
unfolding is_log from_end
empty_log_lem = refl

-- 108 times 2^30 is 0 in 32 bits
pub wrapping_count : is_log (bytes_of (1073741824 ∷ 0 ∷ 108 ∷ [])) ≡ false
unfolding is_log from_end
wrapping_count = refl

-- ---- what stays

pub refused_changes_nothing : (buffer : List ℕ) (len : ℕ) (input answer : List ℕ) → let o = append_refusal buffer len (length input) (length answer) in
    is_done o ≡ false → append_call buffer len input answer ≡ left o buffer
unfolding append_call
refused_changes_nothing buffer len input answer e = refused_keeps (append_refusal buffer len (length input) (length answer)) _ _ e

-- "changes no other byte": none before the old trailer, none after the new one
module _ (buffer : List ℕ) (len : ℕ) (input answer : List ℕ) where
  -- what is written from the old trailer's place on
  abbrev vs : List ℕ
  vs = input ++ answer ++ trailer (record_count (take len buffer) + 1)

  run_ends : Taken buffer len (length input) (length answer) → len - log_trailer_bytes + length vs ≡ len + record_bytes
  run_ends t = omega (arith, length-append (input ++ answer) (trailer (record_count (take len buffer) + 1)), length-append input answer, t.input_length, t.answer_length, t.len_is)

  pub no_other_byte : (i : ℕ) → (i < len - log_trailer_bytes) ⊎ (len + record_bytes ≤ i) → get_or (append_call buffer len input answer).later i 0 ≡ get_or buffer i 0
  unfolding append_call
  no_other_byte i h =
      either (λ (l : Filled). get_or l.later i 0 ≡ get_or buffer i 0) (append_refusal buffer len (length input) (length answer))
      (λ d. sets_other vs buffer (len - log_trailer_bytes) i (rw (run_ends (taken buffer len (length input) (length answer) d)) h)) (λ d. refl)

-- ---- "11 .. at set-up alone" (request Twelve)

pub no_append_gives_eleven : (buffer : List ℕ) (len inputLen answerLen : ℕ) → ¬ (append_refusal buffer len inputLen answerLen ≡ Err PassThrough)
unfolding append_refusal
no_append_gives_eleven buffer len inputLen answerLen = never_given PassThrough (append_table buffer len inputLen answerLen) refl

pub no_reading_gives_eleven : (log : List ℕ) (place n : ℕ) → ¬ (first_of (count_table log n) ≡ Err PassThrough) × ¬ (first_of (record_table log place n) ≡ Err PassThrough)
no_reading_gives_eleven log place n = (never_given PassThrough (count_table log n) refl, never_given PassThrough (record_table log place n) refl)
