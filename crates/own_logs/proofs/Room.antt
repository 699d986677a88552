-- Logs of our own exist: a buffer with room for a record of each accepted tick keeps them all. Assumes nothing.
use Rattle.laws.proofs.Prelude.{◌≡◌, refl, sym, ap, subst, ◌∙◌, Bool, true, false, List, [], ◌∷◌, ◌++◌, ℕ, suc, ◌+◌, ◌-◌, ◌*◌, ◌≤◌, zero-add, arith, le-ltb, ne_eqb, length, length-append, length-sets}
use Rattle.laws.proofs.Prelude.{no}
use Rattle.words.specs.Words.{word, float, bytes_of}
use Rattle.joint_tick.specs.{Profile.is_profile, Tick.ticked}
use Rattle.image.{specs.{Layout.{input_bytes, answer_bytes, setup_enter, setup_exit, setup_profile}, Image.state_at, Inputs.input_at}, proofs.AnswerWords.answer_length}
use Rattle.outcome.{specs.{Outcomes.{Done, is_done, left, Filled, Called}}, proofs.Tables.either}
use Rattle.lent_tick.specs.Tick.{tick_from}
use Rattle.flight_log.specs.{Form.{record_bytes, most_records, empty_log, record_count, is_log}, Records.records, Entry.{append_refusal, append_call}}
use Rattle.flight_log.specs.Runs.{LogBuffer, log_in, ToAppend, appended, after_one, after_all, kept_along, NoneRefused, records_of, at_first}
use Rattle.flight_log.proofs.Reading.{after_appends, records_count, kept_all, never_refused, records_kept}
use Rattle.runs.{specs.Runs.{Tick, Call, Ticks, Exchanges, tick_of, source_on, left_by, start}, proofs.Shown.{refusal_on, flying_is}}
use Rattle.audit.specs.Entry.{check_call}
use Rattle.own_logs.specs.Own.{keeps_of, keeps_along, own_log}
use Rattle.own_logs.proofs.{RecordRight.accepted_right, Own.own_log_accepted}

-- a log, and room for m records more
record Room (h : LogBuffer) (m : ℕ) : Type 0 where
  log : is_log (log_in h) ≡ true
  few : length (records (log_in h)) + m ≤ most_records
  room : h.len + record_bytes * m ≤ length h.buffer

-- ---- one append

-- taken or refused, it keeps the buffer's length
as_long : (h : LogBuffer) (g : ToAppend) → length (appended h g).later ≡ length h.buffer
unfolding append_call
as_long h g =
    either (λ (l : Filled). length l.later ≡ length h.buffer) (append_refusal h.buffer h.len (length g.input) (length g.answer))
    (λ d. simp length-sets) (λ d. refl)

module _ (h : LogBuffer) (g : ToAppend) (m : ℕ) (r : Room h (suc m)) (i : length g.input ≡ input_bytes) (a : length g.answer ≡ answer_bytes) where
  -- where there is room, nothing is refused
  taken : is_done (appended h g).outcome ≡ true
  unfolding append_call append_refusal
  taken =
      let n = length h.buffer in
      rw (
        i,
        a,
        le-ltb n h.len (omega arith),
        r.log,
        le-ltb (n - h.len) record_bytes (omega arith),
        ne_eqb (record_count (log_in h)) most_records (λ e. omega (arith, records_count (log_in h) r.log)),
      )

  -- and it leaves room for one record less
  room_after : Room (after_one h g) m
  unfolding after_all NoneRefused records_of
  room_after =
      let k = after_appends h (g ∷ []) r.log in let one = kept_all h (g ∷ []) (taken, tt) in
      record { log = k.0; few = omega (arith, ap length k.1, ap length one, length-append (records (log_in h)) (kept_along h (g ∷ []))); room = rw taken (omega (arith, as_long h g)) }

-- ---- one call

-- an accepted tick's answer has an answer's length
answer_whole : (image : List ℕ) (t : Tick) → is_done (tick_of image t).outcome ≡ true → length (tick_of image t).later.answer ≡ answer_bytes
unfolding tick_from
answer_whole image t =
    let P : Called → Type 0 = λ c. is_done c.outcome ≡ true → length c.later.answer ≡ answer_bytes in
    let source = source_on t.course image in
    subst P (sym (flying_is t.course image t.input t.answer))
    (either P (refusal_on t.course image (length t.input) (length t.answer)) (λ e z. answer_length (ticked source (state_at image) (input_at t.input)).answer) (λ e z. no (sym e ∙ z)))

-- whatever call it is: its record is kept if it has one, and the rest of the room is left
one_call : (image : List ℕ) (h : LogBuffer) (c : Call) (m : ℕ) → Room h (length (keeps_of image c) + m) → NoneRefused h (keeps_of image c) × Room (after_all h (keeps_of image c)) m
unfolding keeps_of NoneRefused after_all
one_call image h (Exchanges segment) m r = (tt, subst (Room h) (zero-add m) r)
one_call image h (Ticks t) m r = go (is_done (tick_of image t).outcome) refl
  where
    go : (b : Bool) → is_done (tick_of image t).outcome ≡ b → NoneRefused h (keeps_of image (Ticks t)) × Room (after_all h (keeps_of image (Ticks t))) m
    go true d =
        let g : ToAppend = record { input = t.input; answer = (tick_of image t).later.answer } in
        let i = (accepted_right image t d).0 in let a = answer_whole image t d in
        let one : Room h (suc m) = let e : 1 + m ≡ suc m = omega arith in subst (Room h) e (rw d at r) in
        rw d ((taken h g m one i a, tt), room_after h g m one i a)
    go false d = rw d (tt, subst (Room h) (zero-add m) (rw d at r))

-- ---- any number of them

in_turn : (h : LogBuffer) (xs ys : List ToAppend) → NoneRefused h xs → NoneRefused (after_all h xs) ys → NoneRefused h (xs ++ ys)
unfolding NoneRefused after_all
in_turn h [] ys n m = m
in_turn h (g ∷ xs) ys n m = (n.0, in_turn (after_one h g) xs ys n.1 m)

all_kept : (image : List ℕ) (h : LogBuffer) (calls : List Call) → Room h (length (keeps_along image calls)) → NoneRefused h (keeps_along image calls)
unfolding keeps_along NoneRefused
all_kept image h [] r = tt
all_kept image h (c ∷ calls) r =
    let later = keeps_along (left_by image c) calls in
    let o = one_call image h c (length later) (subst (Room h) (length-append (keeps_of image c) later) r) in
    in_turn h (keeps_of image c) later o.0 (all_kept (left_by image c) (after_all h (keeps_of image c)) calls o.1)

module _ (setup beyond : List ℕ) (calls : List Call) (few : length (keeps_along (start setup) calls) ≤ most_records)
    (room : record_bytes * length (keeps_along (start setup) calls) ≤ length beyond) where
  -- A buffer with room for a record of each accepted tick keeps them all, of up to 65,535; the calls may be any number more.
  pub accepted_ticks_kept : NoneRefused (at_first beyond) (keeps_along (start setup) calls)
  unfolding after_all kept_along
  accepted_ticks_kept =
      all_kept (start setup) (at_first beyond) calls record {
        log = never_refused beyond [];
        few = omega (arith, ap length (records_kept beyond []));
        room = omega (arith, length-append empty_log beyond);
      }

  -- so the log of any such run is accepted
  pub run_accepted : is_profile (word setup setup_profile) ≡ true → (into : List ℕ) → length into ≡ 4
      → check_call (own_log setup beyond calls) (word setup setup_profile) (float setup setup_enter) (float setup setup_exit) into ≡ left Done (bytes_of (0xffff_ffff ∷ []))
  run_accepted p = own_log_accepted setup p beyond calls accepted_ticks_kept
