-- Of each public function here: no second answer fits its promise. Assumes nothing.
use Rattle.laws.proofs.Prelude.{◌≡◌, refl, ap}
use contract.Lifetimes.{Lfts}
use denote.{Triple.{Entry.{Args, Res}, Clauses.{Ended, Lasts, at_exit}}}
use Rattle.laws.proofs.Determined.{Promise, OneAnswer, Says, no_second, both}
use Rattle.outcome.specs.Outcomes.{Filled}
use Rattle.flight_log.specs.{declared.reader.Reader.Reader, Records.{record_at, place_after}}
use Rattle.flight_log.specs.contracts as promised
use Rattle.flight_log.proofs.form
use Rattle.flight_log.specs.contracts.reader.next as next
use Rattle.flight_log.specs.contracts.reader.moved as moved
use Rattle.flight_log.proofs.entry
use Rattle.flight_log.proofs.into

pub is_log_once : OneAnswer promised.form.is_log.ended form.is_log.Reads.Post
is_log_once κs a x y v w p q = (no_second p q, refl)

pub append_once : OneAnswer promised.entry.append.ended entry.append.Reads.Post
append_once κs a x y v w p q =
    let e = no_second p q in
    (ap (λ (l : Filled). l.outcome) e, both (ap (λ (l : Filled). l.later) e) refl)

pub count_into_once : OneAnswer promised.into.count_into.ended into.count_into.Reads.Post
count_into_once κs a x y v w p q =
    let e = no_second p q in
    (ap (λ (l : Filled). l.outcome) e, both refl (both (ap (λ (l : Filled). l.later) e) refl))

pub record_into_once : OneAnswer promised.into.record_into.ended into.record_into.Reads.Post
record_into_once κs a x y v w p q =
    let e = no_second p q in
    (ap (λ (l : Filled). l.outcome) e, both refl (both refl (both (ap (λ (l : Filled). l.later) e) refl)))

-- ---- answers that are a part of the lent log: what it holds is fixed; where it lies no promise says, and no code of the language can ask

module _ (T : Ended) {X : Type 0} (seen : (κs : Lfts T.signature.lifetimes) → Res T.signature κs → X) where
  abbrev OneSeen : Promise T → Type 0
  OneSeen promise =
      (κs : Lfts T.signature.lifetimes) (a : Args T.signature κs) (x y : Res T.signature κs) (v w : Lasts T κs a)
      → promise κs a x (at_exit T κs a v)
      → promise κs a y (at_exit T κs a w)
      → (seen κs x ≡ seen κs y) × (v ≡ w)

-- ---- Of the functions over a reader: what each promises, and that its own clause is that.

abbrev Next : Promise next.ended
Next κs a r e = r.now ≡ record_at a.0.log.now a.0.place

abbrev Moved : Promise moved.ended
Moved κs a r e = (r.log ≡ a.0.log) × (r.place ≡ place_after a.0.log.now a.0.place)

pub next_says : Says next.ended (λ M 𝓤. next.clauses) Next
next_says M 𝓤 𝓛 mem run κs a g r e = refl

pub moved_says : Says moved.ended (λ M 𝓤. moved.clauses) Moved
moved_says M 𝓤 𝓛 mem run κs a g r e = refl

reader_once : {x y d : Reader} → (x.log ≡ d.log) × (x.place ≡ d.place) → (y.log ≡ d.log) × (y.place ≡ d.place) → x ≡ y
reader_once p q i = record { log = no_second p.0 q.0 i; place = no_second p.1 q.1 i }

pub next_once : OneSeen next.ended (λ κs r. r.now) Next
next_once κs a x y v w p q = (no_second p q, refl)

pub moved_once : OneAnswer moved.ended Moved
moved_once κs a x y v w p q = (reader_once {d = record { log = a.0.log; place = place_after a.0.log.now a.0.place }} p q, refl)
