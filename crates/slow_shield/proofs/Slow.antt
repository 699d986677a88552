-- Request Nine: the flags of the slow shield are the user's rule and those of the shield that steps, on a list of any length. Assumes nothing.
use Rattle.laws.proofs.Prelude.{ℕ, zero, suc, ◌<◌, ◌≡◌, refl, sym, ap, ◌∙◌, subst, ◌⊎◌, inl, inr, ◌↔◌, Bool, true, false, cond, List, [], ◌∷◌, le_of_suc-le-suc, eq-or-lt_of_le, arith, T, Float, nan}
use Rattle.laws.proofs.Prelude.{binary32, fits, lt, length, get_or, length-append, List·getD-append, no}
use native.Mathlib.Nat.{le_refl}
use lib.Seq.{get_or_at, ext_get_or}
use Rattle.latch.{specs.Latch.{releases, engages, latch, flags_from, flags, FliesAt}, proofs.LatchFlies.{flags_length, flag_flies_at}}
use Rattle.relay_geo.{specs.{declared.{set.RecoverableSet.RecoverableSet, shield.SimplexShield.SimplexShield}, Shield.{mend_thresholds, new_shield, step}}, proofs.SetUp.enter_below_exit}
use Rattle.slow_shield.specs.{Back.{look_back, flags_to, slow_flags}, Stepping.{StepGiven, margins_given, stepped_flags}}

-- ---- one margin looked at, as tests on plain Bools: r that it releases, g that it engages, b what the earlier ones say

which : (r g b : Bool) → cond r false (cond g true b) ≡ false → (r ≡ true) ⊎ ((g ≡ false) × (b ≡ false))
which true g b e = inl refl
which false true b e = no (sym e)
which false false b e = inr (refl, e)

calm_goes_on : (r g b : Bool) → g ≡ false → b ≡ false → cond r false (cond g true b) ≡ false
calm_goes_on true g b p q = refl
calm_goes_on false g b p q = rw (p, q)

same : (a b : Bool) → (a ≡ false → b ≡ false) → (b ≡ false → a ≡ false) → a ≡ b
same true true f g = refl
same true false f g = g refl
same false b f g = sym (f refl)

module _ (enter exit : Float) (ms : List Float) where
  -- ---- looking back finds what the user's rule asks for, and only that. No order of the thresholds is needed.

  here : (k : ℕ) → releases exit (get_or ms k nan) ≡ true → FliesAt enter exit ms k
  here k r = record { i = k; reached = le_refl k; above = r; calm = λ j l u. absurd (omega arith) }

  one_later : (k : ℕ) → engages enter (get_or ms (suc k) nan) ≡ false → FliesAt enter exit ms k → FliesAt enter exit ms (suc k)
  one_later k g f = record {
    i = f.i;
    reached = omega (arith, f.reached);
    above = f.above;
    calm = λ j l u. elim (eq-or-lt_of_le u) [ inl e ↦ rw e g | inr h ↦ f.calm j l (le_of_suc-le-suc h) ];
  }

  released_here : (i k : ℕ) → i ≡ k → releases exit (get_or ms i nan) ≡ true → look_back enter exit ms (suc k) ≡ false
  unfolding look_back
  released_here i k e r = rw (subst (λ (x : ℕ). releases exit (get_or ms x nan) ≡ true) e r)

  above_or_earlier : (k : ℕ) → look_back enter exit ms (suc k) ≡ false → (releases exit (get_or ms k nan) ≡ true) ⊎ ((engages enter (get_or ms k nan) ≡ false) × (look_back enter exit ms k ≡ false))
  unfolding look_back
  above_or_earlier k e = which (releases exit (get_or ms k nan)) (engages enter (get_or ms k nan)) (look_back enter exit ms k) e

  finds : (k : ℕ) → look_back enter exit ms (suc k) ≡ false → FliesAt enter exit ms k
  unfolding look_back
  finds zero e = elim (above_or_earlier zero e) [ inl r ↦ here zero r | inr q ↦ no (sym q.1) ]
  finds (suc k) e = elim (above_or_earlier (suc k) e) [ inl r ↦ here (suc k) r | inr q ↦ one_later k q.0 (finds k q.1) ]

  found : (k : ℕ) → FliesAt enter exit ms k → look_back enter exit ms (suc k) ≡ false
  unfolding look_back
  found zero f = elim (eq-or-lt_of_le f.reached) [ inl e ↦ released_here f.i zero e f.above | inr l ↦ absurd (omega arith) ]
  found (suc k) f = elim (eq-or-lt_of_le f.reached) [
    | inl e ↦ released_here f.i (suc k) e f.above
    | inr l ↦
        calm_goes_on (releases exit (get_or ms (suc k) nan)) (engages enter (get_or ms (suc k) nan)) (look_back enter exit ms (suc k)) (f.calm (suc k) l (le_refl (suc k)))
        (found k record { i = f.i; reached = le_of_suc-le-suc l; above = f.above; calm = λ j a b. f.calm j a (omega arith) })
  ]

  pub looks_back : (k : ℕ) → (look_back enter exit ms (suc k) ≡ false) ↔ FliesAt enter exit ms k
  looks_back k = (finds k, found k)

  -- ---- a flag for each place: that of looking back from there

  pub flags_to_length : (n : ℕ) → length (flags_to enter exit ms n) ≡ n
  unfolding flags_to
  flags_to_length zero = refl
  flags_to_length (suc n) = length-append (flags_to enter exit ms n) (look_back enter exit ms (suc n) ∷ []) ∙ omega (arith, flags_to_length n)

  pub flag_to : (n k : ℕ) → k < n → get_or (flags_to enter exit ms n) k true ≡ look_back enter exit ms (suc k)
  unfolding flags_to
  flag_to zero k h = absurd (omega arith)
  flag_to (suc n) k h = elim (eq-or-lt_of_le (le_of_suc-le-suc h)) [
    | inl e ↦ rw e (get_or_at (flags_to enter exit ms n) (look_back enter exit ms (suc n)) [] true n (flags_to_length n))
    | inr l ↦ List·getD-append (flags_to enter exit ms n) (look_back enter exit ms (suc n) ∷ []) true k (omega (arith, flags_to_length n)) ∙ flag_to n k l
  ]

  pub slow_length : length (slow_flags enter exit ms) ≡ length ms
  slow_length = flags_to_length (length ms)

  -- the user's rule at every place, whatever the thresholds
  pub slow_flies_at : (k : ℕ) → k < length ms → (get_or (slow_flags enter exit ms) k true ≡ false) ↔ FliesAt enter exit ms k
  slow_flies_at k h = rw (flag_to (length ms) k h) (looks_back k)

  -- ---- The latch, by its own law: its flag at a place is that rule too. So the two agree.

  pub slow_is_latch : lt enter exit ≡ true → slow_flags enter exit ms ≡ flags enter exit ms
  slow_is_latch o = ext_get_or true (slow_flags enter exit ms) (flags enter exit ms) (slow_length ∙ sym (flags_length enter exit true ms)) agree
    where
      agree : (k : ℕ) → k < length (slow_flags enter exit ms) → get_or (slow_flags enter exit ms) k true ≡ get_or (flags enter exit ms) k true
      agree k h =
          let l : k < length ms = subst (λ (n : ℕ). k < n) slow_length h in let slow = slow_flies_at k l in
          let fast = flag_flies_at enter exit ms k l o in
          same _ _ (λ e. fast.1 (slow.0 e)) (λ e. slow.1 (fast.0 e))

-- ---- the shield that steps is the latch: step after step

pub stepped_is_latch : (s : SimplexShield) (gs : List StepGiven) → stepped_flags s gs ≡ flags_from s.enter s.exit s.engaged (margins_given gs)
unfolding stepped_flags step flags_from latch
stepped_is_latch s [] = refl
stepped_is_latch s (g ∷ gs) =
    let done = step s g.margin g.agile g.fallback in
    ap (λ (l : List Bool). done.fallback ∷ l) (stepped_is_latch done.shield gs)

-- "Prove its flags equal to the stepping shield's on every list": a fresh shield of any set, of thresholds given as any f32, and whatever the commands
pub slow_is_stepping : (set : RecoverableSet) (enter exit : Float) → T (fits binary32 enter) → (gs : List StepGiven)
    → slow_flags (mend_thresholds enter exit).enter (mend_thresholds enter exit).exit (margins_given gs) ≡ stepped_flags (new_shield set enter exit) gs
unfolding new_shield
slow_is_stepping set enter exit f gs =
    let t = mend_thresholds enter exit in
    slow_is_latch t.enter t.exit (margins_given gs) (enter_below_exit enter exit f) ∙ sym (stepped_is_latch (new_shield set enter exit) gs)
