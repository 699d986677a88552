-- One turn of the pass over a log: the latch that is carried along says what looking back does. Assumes nothing.
use Rattle.laws.proofs.Prelude.{ℕ, zero, suc, ◌+◌, ◌-◌, ◌*◌, ◌<◌, ◌≡◌, refl, sym, ap, ◌∙◌, Bool, true, false, not, ◌&&◌, cond, List, [], ◌∷◌, ◌++◌, le_of_suc-le-suc, add-one, arith, lt-ltb}
use Rattle.laws.proofs.Prelude.{ltb, Float, nan, lt, length, get_or, take, drop, length-drop, length-append, length-take-le, take-take, take_at, drop_at}
use Rattle.std.proofs.Common.{Some}
use Rattle.std.proofs.lemmas.List.{drop-take, drop-drop}
use Rattle.latch.{specs.Latch.{releases, engages, latch}, proofs.LatchFlies.released_is_calm}
use Rattle.joint_tick.specs.declared.profile.Profile.{Profile}
use Rattle.slow_shield.specs.Back.{look_back}
use Rattle.flight_log.{specs.{Form.{record_bytes, log_trailer_bytes, most_records, record_count, is_log}, Records.{bytes_at, records, has_record, record_at}}, proofs.LogForm.is_a_log}
use Rattle.flight_log.proofs.Reading.{records_count, record_is}
use Rattle.audit.specs.{Right.{margin_in, margins_in, right, right_at}, Verdict.verdict_from}

-- ---- stepping is looking back, with b what the earlier margins say, r that this one releases and g that it engages

step_tests : (b r g : Bool) → (r ≡ true → g ≡ false) → cond b (not r) g ≡ cond r false (cond g true b)
step_tests true true g h = refl
step_tests true false true h = refl
step_tests true false false h = refl
step_tests false true g h = h refl
step_tests false false true h = refl
step_tests false false false h = refl

pub steps_back : (enter exit : Float) → lt enter exit ≡ true → (ms : List Float) (k : ℕ)
    → latch enter exit (look_back enter exit ms k) (get_or ms k nan) ≡ look_back enter exit ms (suc k)
unfolding latch look_back
steps_back enter exit o ms k =
    let m = get_or ms k nan in
    step_tests (look_back enter exit ms k) (releases exit m) (engages enter m) (released_is_calm enter exit o m)

pub margin_at_lem : (rs : List (List ℕ)) (i : ℕ) → i < length rs → get_or (margins_in rs) i nan ≡ margin_in (get_or rs i [])
margin_at_lem [] i h = absurd (omega arith)
margin_at_lem (r ∷ rs) zero h = refl
margin_at_lem (r ∷ rs) (suc i) h = margin_at_lem rs i (le_of_suc-le-suc h)

-- ---- the record that a turn looks at, and what is left after it

-- a log without its trailer, from record i on
abbrev pub from_record : List ℕ → ℕ → List ℕ
from_record b i = drop (record_bytes * i) (take (length b - log_trailer_bytes) b)

pub record Turn (b : List ℕ) (i : ℕ) (r more : List ℕ) : Type 0 where
  pub few : i < most_records
  pub within_list : i < length (records b)
  pub is : r ≡ get_or (records b) i []
  pub left : more ≡ from_record b (i + 1)

pub turn : (b : List ℕ) (i : ℕ) {r more : List ℕ} → is_log b ≡ true → from_record b i ≡ r ++ more → length r ≡ record_bytes → Turn b i r more
unfolding record_at has_record
turn b i {r} {more} l e h =
    let log = is_a_log b l in let n : ℕ = length b - log_trailer_bytes in let body : List ℕ = take n b in
    let k : length body ≡ n = length-take-le n b (omega arith) in
    let all : length body - record_bytes * i ≡ length r + length more = sym (length-drop (record_bytes * i) body) ∙ ap length e ∙ length-append r more in
    let m : i < record_count b = omega (arith, log.whole) in
    let there : cond (is_log b && ltb i (record_count b)) (bytes_at b i) [] ≡ get_or (records b) i [] = record_is b i l m in
    let s : record_bytes * i + (n - record_bytes * i) ≡ n = omega arith in
    let f : record_bytes * i + record_bytes ≡ record_bytes * (i + 1) = omega arith in
    record {
      few = omega (arith, log.few);
      within_list = rw (records_count b l) m;
      is = sym (take_at r more record_bytes h) ∙ ap (take record_bytes) (sym e)
          ∙ ap (λ (j : ℕ). take record_bytes (drop (record_bytes * i) (take j b))) (sym s)
          ∙ ap (take record_bytes) (drop-take (record_bytes * i) (n - record_bytes * i) b)
          ∙ take-take record_bytes (n - record_bytes * i) (drop (record_bytes * i) b) (omega arith)
          ∙ rw (l, lt-ltb i (record_count b) m) at there;
      left = sym (drop_at r more record_bytes h) ∙ ap (drop record_bytes) (sym e) ∙ drop-drop record_bytes (record_bytes * i) body ∙ ap (λ (j : ℕ). drop j body) f;
    }

-- as many turns as records
pub all_turns : (b : List ℕ) (i : ℕ) → is_log b ≡ true → length (from_record b i) < record_bytes → length (records b) - i ≡ 0
all_turns b i l k =
    let n : ℕ = length b - log_trailer_bytes in
    omega (arith, (is_a_log b l).whole, records_count b l, length-drop (record_bytes * i) (take n b), length-take-le n b (omega arith))

-- ---- one turn: what was demanded last, the margin that is read, what is demanded now, and whether the record is right

module _ (profile : Profile) (enter exit : Float) (o : lt enter exit ≡ true) (b : List ℕ) (i : ℕ) {r more : List ℕ} (t : Turn b i r more)
    {before now fine : Bool} {m : Float}
    (was : before ≡ look_back enter exit (margins_in (records b)) i) (read : m ≡ margin_in r) (stepped : now ≡ latch enter exit before m) (said : fine ≡ right profile now r) where
  abbrev rs : List (List ℕ)
  rs = records b

  demanded : now ≡ look_back enter exit (margins_in rs) (suc i)
  demanded = stepped ∙ rw (was, read, t.is, ← margin_at_lem rs i t.within_list) (steps_back enter exit o (margins_in rs) i)

  judges : fine ≡ right_at profile enter exit rs i
  unfolding right_at
  judges = said ∙ rw (demanded, t.is)

  left_over : length rs - i ≡ suc (length rs - suc i)
  left_over = omega (arith, t.within_list)

  pub carried : now ≡ look_back enter exit (margins_in rs) (i + 1)
  carried = rw (add-one i) demanded

  pub goes_on : fine ≡ true → verdict_from profile enter exit rs i (length rs - i) ≡ verdict_from profile enter exit rs (i + 1) (length rs - (i + 1))
  unfolding verdict_from
  goes_on e = rw (add-one i, left_over, ← judges, e)

  pub stops : fine ≡ false → verdict_from profile enter exit rs i (length rs - i) ≡ Some i
  unfolding verdict_from
  stops e = rw (left_over, ← judges, e)
