-- What bytes that are a log have, and what an append that is not refused has. Assumes nothing.
use Rattle.std.specs.Prelude.{Ok}
use Rattle.laws.proofs.Prelude.{◌≡◌, sym, ◌∙◌, true, List, ◌++◌, ℕ, ◌+◌, ◌-◌, ◌*◌, ◌/◌, ◌≤◌, ◌<◌, arith, ltb-true, ltb-false, eqb-false, not-false}
use Rattle.laws.proofs.Prelude.{ltb, length, take, drop, length-append, length-drop, sets, length-take-le, both}
use Rattle.std.proofs.lemmas.Grind.{common_steps}
use Rattle.words.{specs.Words.Put, proofs.Written.sets_append}
use Rattle.image.specs.Layout.{input_bytes, answer_bytes}
use Rattle.outcome.{specs.Outcomes.{Outcome, Done, is_done, left}, proofs.Tables.{done_none, same, accepted}}
use Rattle.flight_log.specs.{Form.{record_bytes, log_trailer_bytes, most_records, trailer_words, trailer, record_count, is_log}, Records.{has_record, record_at}}
use Rattle.flight_log.specs.Entry.{append_table, append_refusal, with_record, append_call}

pub record Log (b : List ℕ) : Type 0 where
  pub trailer : log_trailer_bytes ≤ length b
  pub few : record_count b ≤ most_records
  pub whole : length b ≡ record_bytes * record_count b + log_trailer_bytes

pub is_a_log : (b : List ℕ) → is_log b ≡ true → Log b
unfolding is_log
is_a_log b e = record { trailer = grind (arith, common_steps); few = grind (arith, common_steps); whole = grind (arith, common_steps) }

-- and what a place has at which there is a record
pub record There (b : List ℕ) (i : ℕ) : Type 0 where
  pub few : i < most_records
  pub within : record_bytes * i + record_bytes ≤ length b

pub there : (b : List ℕ) (i : ℕ) → has_record b i ≡ true → There b i
unfolding has_record
there b i e =
    let t = both (is_log b) (ltb i (record_count b)) e in let l = is_a_log b t.0 in
    let h = ltb-true i (record_count b) t.1 in
    record { few = omega (arith, l.few); within = omega (arith, l.whole) }

pub record Taken (buffer : List ℕ) (len inputLen answerLen : ℕ) : Type 0 where
  pub input_length : inputLen ≡ input_bytes
  pub answer_length : answerLen ≡ answer_bytes
  pub within : len ≤ length buffer
  pub log : is_log (take len buffer) ≡ true
  pub len_is : len ≡ record_bytes * record_count (take len buffer) + log_trailer_bytes
  pub room : record_bytes * record_count (take len buffer) + record_bytes + log_trailer_bytes ≤ length buffer
  pub one_more : record_count (take len buffer) < most_records

pub taken : (buffer : List ℕ) (len inputLen answerLen : ℕ) → is_done (append_refusal buffer len inputLen answerLen) ≡ true → Taken buffer len inputLen answerLen
unfolding append_refusal
taken buffer len inputLen answerLen e =
    let log = take len buffer in let n = record_count log in
    let t = done_none (append_table buffer len inputLen answerLen) e in
    let h = ltb-false (length buffer) len (t 2) in let is = not-false (is_log log) (t 3) in let l = is_a_log log is in
    let m = eqb-false n most_records (t 5) in
    let e : len ≡ record_bytes * n + log_trailer_bytes = sym (length-take-le len buffer h) ∙ l.whole in
    record {
      input_length = same inputLen input_bytes (t 0);
      answer_length = same answerLen answer_bytes (t 1);
      within = h;
      log = is;
      len_is = e;
      room = omega (arith, ltb-false (length buffer - len) record_bytes (t 4));
      one_more = below n l.few m;
    }
  where
    below : (n : ℕ) → n ≤ most_records → (n ≡ most_records → ⊥) → n < most_records
    below n h m = omega (arith, m)

-- of an append that asked a function, which said o, and was not refused: what it has, and what it leaves
pub let_through : {buffer : List ℕ} {len inputLen answerLen : ℕ} {o : Outcome} {u : Unit} → o ≡ append_refusal buffer len inputLen answerLen → o ≡ Ok u → Taken buffer len inputLen answerLen
let_through e d = taken _ _ _ _ (accepted e d)

pub written : (buffer : List ℕ) (len : ℕ) (input answer : List ℕ) {o : Outcome} {u : Unit} → o ≡ append_refusal buffer len (length input) (length answer) → o ≡ Ok u
    → {n : ℕ} {later : List ℕ} → n ≡ record_count (take len buffer) → later ≡ with_record buffer (record_bytes * n) (n + 1) input answer → left Done later ≡ append_call buffer len input answer
unfolding append_call
written buffer len input answer {o} e d c p =
    let at : len - log_trailer_bytes ≡ record_bytes * record_count (take len buffer) = omega (arith, (let_through e d).len_is) in
    rw (← e, d, at, p, c)

-- ---- the input, the answer and the trailer, written one after another, are one run

pub recorded : (b : List ℕ) (n : ℕ) (input answer : List ℕ) {s t r : List ℕ} → (length input ≡ input_bytes) × (length answer ≡ answer_bytes)
    → s ≡ sets b (record_bytes * n) input → t ≡ sets s (record_bytes * n + input_bytes) answer → Put t ((record_bytes * n + record_bytes) / 4) (trailer_words (n + 1)) r
    → r ≡ with_record b (record_bytes * n) (n + 1) input answer
recorded b n input answer h p q r =
    let at = record_bytes * n in
    let e : at + input_bytes ≡ at + length input = omega (arith, h.0) in
    let g : 4 * ((at + record_bytes) / 4) ≡ at + length (input ++ answer) = omega (arith, h.0, h.1, length-append input answer) in
    r.is ∙ rw (g, q, e, p, sets_append b at input answer) (sets_append b at (input ++ answer) (trailer (n + 1)))

-- ---- a record that is there has its length

pub record_length : (b : List ℕ) (i : ℕ) → has_record b i ≡ true → length (record_at b i) ≡ record_bytes
unfolding record_at
record_length b i e =
    let h : record_bytes ≤ length (drop (record_bytes * i) b) = omega (arith, length-drop (record_bytes * i) b, (there b i e).within) in
    rw e (length-take-le record_bytes (drop (record_bytes * i) b) h)
