-- What the verdict says of a list of records, exactly. Assumes nothing.
use Rattle.laws.proofs.Prelude.{ℕ, zero, suc, ◌+◌, ◌<◌, ◌≡◌, refl, sym, ap, subst, ◌∙◌, inl, inr, ◌↔◌, Bool, true, false, ◌&&◌, cond, List, [], le_of_suc-le-suc, eq-or-lt_of_le, arith, eqb-true}
use Rattle.laws.proofs.Prelude.{eq-eqb, eqb, Float, length, get_or, no, both, le_or_lt}
use Rattle.std.proofs.Common.{Some, None}
use Rattle.relay_math.specs.F32.{is_finite}
use Rattle.words.specs.Words.{float_of, flag}
use Rattle.latch.specs.Latch.{FliesAt}
use Rattle.joint_tick.specs.declared.profile.Profile.{Profile, TheVariants.{Whole, LostRotor}}
use Rattle.image.specs.Passed.{planner_word}
use Rattle.slow_shield.{specs.Back.look_back, proofs.Slow.looks_back}
use Rattle.audit.specs.{Right.{command_word, flag_word, passes, passes_third, planners, finite_on, finites, right, margins_in, right_at, RightAt}, Verdict.{Verdict, verdict_from, verdict_of, Says}}

-- ---- "Answer yes exactly if all hold, else the first wrong record, counted from 0."

module _ (profile : Profile) (enter exit : Float) (rs : List (List ℕ)) where
  -- the records before place i are right
  abbrev RightTo : ℕ → Type 0
  RightTo i = (j : ℕ) → j < i → right_at profile enter exit rs j ≡ true

  one_more : (i : ℕ) → RightTo i → right_at profile enter exit rs i ≡ true → RightTo (suc i)
  one_more i r e j h = elim (eq-or-lt_of_le (le_of_suc-le-suc h)) [ inl s ↦ rw s e | inr l ↦ r j l ]

  said_from : (i n : ℕ) → i + n ≡ length rs → RightTo i → Says profile enter exit rs (verdict_from profile enter exit rs i n)
  unfolding verdict_from
  said_from i zero e r = λ j h. r j (omega arith)
  said_from i (suc n) e r = go (right_at profile enter exit rs i) refl (λ t. said_from (suc i) n (omega arith) (one_more i r t))
    where
      go : (b : Bool) → right_at profile enter exit rs i ≡ b → (right_at profile enter exit rs i ≡ true → Says profile enter exit rs (verdict_from profile enter exit rs (suc i) n))
          → Says profile enter exit rs (cond b (verdict_from profile enter exit rs (suc i) n) (Some i))
      go true t more = more t
      go false t more = (omega arith, t, r)

  apart : {X : Type 0} (i : ℕ) → right_at profile enter exit rs i ≡ true → right_at profile enter exit rs i ≡ false → X
  apart i t f = no (sym f ∙ t)

  -- no two verdicts can be said of the same records
  one_verdict : (v w : Verdict) → Says profile enter exit rs v → Says profile enter exit rs w → v ≡ w
  one_verdict None None s t = refl
  one_verdict None (Some k) s t = apart k (s k t.0) t.1
  one_verdict (Some k) None s t = apart k (t k s.0) s.1
  one_verdict (Some j) (Some k) s t = elim (le_or_lt j k) [
    | inl h ↦ elim (eq-or-lt_of_le h) [ inl e ↦ ap (λ (i : ℕ). Some i) e | inr l ↦ apart j (t.2 j l) s.1 ]
    | inr l ↦ apart k (s.2 k l) t.1
  ]

  said : Says profile enter exit rs (verdict_of profile enter exit rs)
  said = said_from 0 (length rs) (omega arith) (λ j h. absurd (omega arith))

  -- the verdict is "all right" exactly if every record is right, and a place exactly if it is the least wrong one
  pub verdict_says : (v : Verdict) → (verdict_of profile enter exit rs ≡ v) ↔ Says profile enter exit rs v
  verdict_says v = (λ e. subst (Says profile enter exit rs) e said, λ s. one_verdict (verdict_of profile enter exit rs) v said s)

-- "An empty log gets yes."
pub empty_right : (profile : Profile) (enter exit : Float) → verdict_of profile enter exit [] ≡ None
unfolding verdict_from
empty_right profile enter exit = refl

-- ---- a right record in the user's words

-- three tests, by their axis
each : (p : ℕ → Bool) → (p 0 && p 1 && p 2) ≡ true → (k : ℕ) → k < 3 → p k ≡ true
each p e zero h = (both (p 0) (p 1) (both (p 0 && p 1) (p 2) e).0).0
each p e (suc zero) h = (both (p 0) (p 1) (both (p 0 && p 1) (p 2) e).0).1
each p e (suc (suc zero)) h = (both (p 0 && p 1) (p 2) e).1
each p e (suc (suc (suc k))) h = absurd (omega arith)

all_three : (p : ℕ → Bool) → ((k : ℕ) → k < 3 → p k ≡ true) → (p 0 && p 1 && p 2) ≡ true
all_three p f = rw (f 0 (omega arith), f 1 (omega arith), f 2 (omega arith))

abbrev carried : Profile → List ℕ → ℕ → Bool
carried profile r axis = eqb (command_word r axis) (planner_word profile r axis)

planners_are : (profile : Profile) (r : List ℕ) → planners profile r ≡ (carried profile r 0 && carried profile r 1 && carried profile r 2)
unfolding planners passes passes_third
planners_are Whole r = refl
planners_are LostRotor r = refl

module _ (profile : Profile) (r : List ℕ) where
  planners_each : (planners profile r ≡ true) ↔ ((axis : ℕ) → axis < 3 → command_word r axis ≡ planner_word profile r axis)
  planners_each = (
    λ e axis h. eqb-true _ _ (each (carried profile r) (sym (planners_are profile r) ∙ e) axis h),
    λ f. planners_are profile r ∙ all_three (carried profile r) (λ axis h. eq-eqb _ _ (f axis h)),
  )

  finites_each : (finites r ≡ true) ↔ ((axis : ℕ) → axis < 3 → is_finite (float_of (command_word r axis)) ≡ true)
  unfolding finites finite_on
  finites_each = (each (λ (axis : ℕ). is_finite (float_of (command_word r axis))), all_three (λ (axis : ℕ). is_finite (float_of (command_word r axis))))

  -- so a record that has the flag which is demanded, and the words which it asks for, is right
  pub by_flag : (demanded : Bool) → flag_word r ≡ flag demanded → (demanded ≡ false → (axis : ℕ) → axis < 3 → command_word r axis ≡ planner_word profile r axis)
      → (demanded ≡ true → (axis : ℕ) → axis < 3 → is_finite (float_of (command_word r axis)) ≡ true) → right profile demanded r ≡ true
  unfolding right
  by_flag true e f g = rw (eq-eqb (flag_word r) 1 e) (finites_each.1 (g refl))
  by_flag false e f g = rw (eq-eqb (flag_word r) 0 e) (planners_each.1 (f refl))

module _ (profile : Profile) (enter exit : Float) (rs : List (List ℕ)) (i : ℕ) where
  abbrev r : List ℕ
  r = get_or rs i []

  abbrev Rule : Bool → Type 0
  Rule demanded = (demanded ≡ false) ↔ FliesAt enter exit (margins_in rs) i

  shown : (demanded : Bool) → Rule demanded → right profile demanded r ≡ true → RightAt profile enter exit rs i
  unfolding right
  shown true rule e =
      let w = both (eqb (flag_word r) 1) (finites r) e in let f = eqb-true (flag_word r) 1 w.0 in
      record {
        flag = inr f;
        flies = (λ z. absurd (omega (arith, z, f)), λ x. no (sym (rule.1 x)));
        planner = λ z. absurd (omega (arith, z, f));
        fallback = λ z. (finites_each profile r).0 w.1;
      }
  shown false rule e =
      let w = both (eqb (flag_word r) 0) (planners profile r) e in let f = eqb-true (flag_word r) 0 w.0 in
      record { flag = inl f; flies = (λ z. rule.0 refl, λ x. f); planner = λ z. (planners_each profile r).0 w.1; fallback = λ z. absurd (omega (arith, z, f)) }

  meets : (demanded : Bool) → Rule demanded → RightAt profile enter exit rs i → right profile demanded r ≡ true
  meets true rule s = elim s.flag [
    | inl z ↦ no (sym (rule.1 (s.flies.0 z)))
    | inr f ↦ by_flag profile r true f (λ e. no (sym e)) (λ e. s.fallback f)
  ]
  meets false rule s = let f = s.flies.1 (rule.0 refl) in by_flag profile r false f (λ e. s.planner f) (λ e. no e)

  pub right_exactly : (right_at profile enter exit rs i ≡ true) ↔ RightAt profile enter exit rs i
  unfolding right_at
  right_exactly =
      let demanded = look_back enter exit (margins_in rs) (suc i) in let rule = looks_back enter exit (margins_in rs) i in
      (shown demanded rule, meets demanded rule)

-- Soundness: an accepted log shows the planner flying exactly where the user's rule says
pub accepted_flies_at : (profile : Profile) (enter exit : Float) (rs : List (List ℕ)) → verdict_of profile enter exit rs ≡ None
    → (i : ℕ) → i < length rs → (flag_word (get_or rs i []) ≡ 0) ↔ FliesAt enter exit (margins_in rs) i
accepted_flies_at profile enter exit rs e i h = ((right_exactly profile enter exit rs i).0 ((verdict_says profile enter exit rs None).0 e i h)).flies
