-- A table of refusals, whatever its rows: when a call is done, which row wins, and what a refused call leaves. Assumes nothing.
use Rattle.laws.proofs.Prelude.{◌≡◌, refl, sym, ap, ◌∙◌, ◌↔◌, Bool, true, false, not, ◌&&◌, cond, [], ◌∷◌, ◌++◌, ℕ, zero, suc, ◌<◌, suc-le-suc, zero-lt-suc, eqb, eqb-true, eq-eqb, not-false}
use Rattle.laws.proofs.Prelude.{get_or, no, both}
use Rattle.std.specs.Prelude.{Ok, Err}
use Rattle.outcome.specs.declared.Refusal.{Refusal, TheVariants.{ImageLength, InputLength, AnswerLength, BrokenImage, LegCount, RouteLength, LegsApart}}
use Rattle.outcome.specs.declared.Refusal.TheVariants.{BrokenLog, NoRoom, BadProfile, PassThrough, BadPattern, NoRecord, RecordLength}
use Rattle.outcome.specs.Outcomes.{refusal_number, Outcome, Done, number, is_done, Table, first_of, differs, Left, left, left_unless}

-- ---- an outcome is done or a refusal

pub done_is : (o : Outcome) → is_done o ≡ true → o ≡ Done
done_is (Ok u) e = refl
done_is (Err r) e = no e

pub done_or : (o : Outcome) → cond (is_done o) Done o ≡ o
done_or (Ok u) = refl
done_or (Err r) = refl

-- "0" is the number of a call that was not refused, and of no refusal
pub done_is_zero : (o : Outcome) → is_done o ≡ eqb (number o) 0
done_is_zero (Ok u) = refl
done_is_zero (Err r) = not_zero r
  where
    not_zero : (r : Refusal) → false ≡ eqb (refusal_number r) 0
    not_zero = elim [
      | ImageLength ↦ refl
      | InputLength ↦ refl
      | AnswerLength ↦ refl
      | BrokenImage ↦ refl
      | LegCount ↦ refl
      | RouteLength ↦ refl
      | LegsApart ↦ refl
      | BrokenLog ↦ refl
      | NoRoom ↦ refl
      | BadProfile ↦ refl
      | PassThrough ↦ refl
      | BadPattern ↦ refl
      | NoRecord ↦ refl
      | RecordLength ↦ refl
    ]

-- row number k, counted from 0; after the last, one whose test does not hold
abbrev pub row_at : Table → ℕ → Bool × Refusal
row_at rows k = get_or rows k (false, ImageLength)

-- ---- "the lowest number wins": the first row whose test holds

pub first_row_wins : (rows : Table) (k : ℕ) → ((i : ℕ) → i < k → (row_at rows i).0 ≡ false) → (row_at rows k).0 ≡ true → first_of rows ≡ Err (row_at rows k).1
first_row_wins [] k n h = no h
first_row_wins (row ∷ rows) zero n h = rw h
first_row_wins (row ∷ rows) (suc k) n h = rw (n 0 (zero-lt-suc k)) (first_row_wins rows k (λ i l. n (suc i) (suc-le-suc l)) h)

-- ---- "0: no row below holds"

pub done_none : (rows : Table) → is_done (first_of rows) ≡ true → (k : ℕ) → (row_at rows k).0 ≡ false
done_none [] e k = refl
done_none ((true, r) ∷ rows) e k = no e
done_none ((false, r) ∷ rows) e zero = refl
done_none ((false, r) ∷ rows) e (suc k) = done_none rows e k

none_done : (rows : Table) → ((k : ℕ) → (row_at rows k).0 ≡ false) → is_done (first_of rows) ≡ true
none_done [] n = refl
none_done (row ∷ rows) n = rw (n 0) (none_done rows (λ k. n (suc k)))

pub done_exactly : (rows : Table) → (is_done (first_of rows) ≡ true) ↔ ((k : ℕ) → (row_at rows k).0 ≡ false)
done_exactly rows = (done_none rows, none_done rows)

-- a length that is not refused
pub same : (x n : ℕ) → differs x n ≡ false → x ≡ n
same x n e = eqb-true x n (not-false _ e)

-- ---- a refusal that no row has is not given

abbrev pub without : Refusal → Table → Bool
without r [] = true
without r (row ∷ rows) = differs (refusal_number row.1) (refusal_number r) && without r rows

pub never_given : (r : Refusal) (rows : Table) → without r rows ≡ true → ¬ (first_of rows ≡ Err r)
never_given r [] w e = no (sym (ap is_done e))
never_given r ((true, x) ∷ rows) w e =
    no (ap not (sym (eq-eqb (refusal_number r) (refusal_number r) refl)) ∙ ap (λ (y : Outcome). differs (number y) (refusal_number r)) (sym e)
    ∙ (both (differs (refusal_number x) (refusal_number r)) (without r rows) w).0)
never_given r ((false, x) ∷ rows) w e = never_given r rows (both (differs (refusal_number x) (refusal_number r)) (without r rows) w).1 e

-- one table after another
pub in_turn : (rows more : Table) → first_of (rows ++ more) ≡ cond (is_done (first_of rows)) (first_of more) (first_of rows)
in_turn [] more = refl
in_turn ((true, r) ∷ rows) more = refl
in_turn ((false, r) ∷ rows) more = in_turn rows more

-- ---- "nothing changed"

pub refused_keeps : {B : Type 0} (o : Outcome) (written kept : B) → is_done o ≡ false → left_unless o written kept ≡ left o kept
refused_keeps o written kept e = rw e

-- what holds of both sides of a test holds of the one that is taken
pub by_test_lem : {A : Type 0} (P : A → Type 0) (t : Bool) {x y : A} → (t ≡ true → P x) → (t ≡ false → P y) → P (cond t x y)
by_test_lem P true f g = f refl
by_test_lem P false f g = g refl

-- so of what an accepted call leaves and of what a refused one does
pub either : {B : Type 0} (P : Left Outcome B → Type 0) (o : Outcome) {written kept : B} → (is_done o ≡ true → P (left Done written)) → (is_done o ≡ false → P (left o kept))
    → P (left_unless o written kept)
either P o w k = by_test_lem P (is_done o) w k

-- ---- a call that asks a function, which says o, whether it is refused

module _ {o r : Outcome} (e : o ≡ r) where
  pub accepted : {u : Unit} → o ≡ Ok u → is_done r ≡ true
  accepted n = rw (← e, n)

  pub refused : {refusal : Refusal} → o ≡ Err refusal → {B : Type 0} {kept : B} (written : B) → left (Err refusal) kept ≡ left_unless r written kept
  refused n written = rw (← e, n)
