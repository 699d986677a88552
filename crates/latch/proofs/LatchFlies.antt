-- The latch over any list of margins, with no image and no tick. Assumes nothing.
use Rattle.laws.proofs.Prelude.{ℕ, zero, suc, ◌+◌, ◌-◌, ◌<◌, ◌≤◌, suc-le-suc, ◌≡◌, refl, sym, ap, ◌∙◌, subst, ◌⊎◌, inl, inr, ◌↔◌, Bool, true, false, not, ◌&&◌, ◌||◌, cond, List, [], ◌∷◌, ◌++◌}
use Rattle.laws.proofs.Prelude.{le_of_suc-le-suc, zero-lt-suc, add-zero, arith, Float, nan, inf, fin, lt, length, get_or, take, drop, length-append, length-drop, length-take-le, get_or-append-add}
use Rattle.laws.proofs.Prelude.{get_or-take, get_or-drop, no}
use mathlib.Core.List.Memᴰ
use mathlib.Core.List.{Memᴰ}
use lib.Seq.{split_at}
use Rattle.relay_math.{specs.F32.is_finite, proofs.Order.lt_above}
use Rattle.latch.specs.Latch.{releases, engages, latch, after, flags_from, engaged_after, flags, Flies, FliesAt}

-- ---- one step, as tests on plain Bools: r that the margin releases, g that it engages

released_step : (b r g : Bool) → r ≡ true → g ≡ false → cond b (not r) g ≡ false
released_step true r g p q = rw p
released_step false r g p q = q

kept_step : (b r g : Bool) → b ≡ false → g ≡ false → cond b (not r) g ≡ false
kept_step b r g p q = rw (p, q)

which_step : (b r g : Bool) → cond b (not r) g ≡ false → (r ≡ true) ⊎ ((b ≡ false) × (g ≡ false))
which_step true true g e = inl refl
which_step true false g e = no (sym e)
which_step false r g e = inr (refl, e)

-- with f that it is finite, a that it is above exit, and u that it is below enter
calm_test : (f a u : Bool) → (f && a) ≡ true → (a ≡ true → u ≡ false) → (not f || u) ≡ false
calm_test true a u p h = h p
calm_test false a u p h = no p

module _ (enter exit : Float) where
  -- a margin that releases does not engage
  pub released_is_calm : lt enter exit ≡ true → (m : Float) → releases exit m ≡ true → engages enter m ≡ false
  released_is_calm o m r = calm_test (is_finite m) (lt exit m) (lt m enter) r (lt_above enter exit m o)

  -- no margin of the list engages
  abbrev Calm : List Float → Type 0
  Calm ms = (m : Float) → Memᴰ m ms → engages enter m ≡ false

  calm_cons : (m : Float) (ms : List Float) → engages enter m ≡ false → Calm ms → Calm (m ∷ ms)
  calm_cons m ms g c x h = elim (Memᴰ.cases_cons h) [ inl e ↦ rw e g | inr t ↦ c x t ]

  -- ---- from any flag: at the end the planner flies if it flew before and none engaged, or if it was released on the way

  abbrev pub Flew : Bool → List Float → Type 0
  Flew b ms = ((b ≡ false) × Calm ms) ⊎ Flies enter exit ms

  further : (m : Float) (ms : List Float) → Flies enter exit ms → Flies enter exit (m ∷ ms)
  further m ms f = record { before = m ∷ f.before; margin = f.margin; later = f.later; split = ap (λ (l : List Float). m ∷ l) f.split; above = f.above; calm = f.calm }

  looked_back : (b : Bool) (ms : List Float) → after enter exit b ms ≡ false → Flew b ms
  unfolding after latch
  looked_back b [] e = inl (e, λ m h. absurd (Memᴰ.not-nil h))
  looked_back b (m ∷ ms) e = go (looked_back (latch enter exit b m) ms e)
    where
      go : Flew (latch enter exit b m) ms → Flew b (m ∷ ms)
      go (inr f) = inr (further m ms f)
      go (inl (p, c)) =
          elim (which_step b (releases exit m) (engages enter m) p) [
            | inl r ↦ inr record { before = []; margin = m; later = ms; split = refl; above = r; calm = c }
            | inr q ↦ inl (q.0, calm_cons m ms q.1 c)
          ]

  stays_released : (b : Bool) (ms : List Float) → b ≡ false → Calm ms → after enter exit b ms ≡ false
  unfolding after latch
  stays_released b [] e c = e
  stays_released b (m ∷ ms) e c =
      stays_released (latch enter exit b m) ms
      (kept_step b (releases exit m) (engages enter m) e (c m (Memᴰ.head refl)))
      (λ x h. c x (Memᴰ.tail h))

  released_at : lt enter exit ≡ true → (b : Bool) (before : List Float) (m : Float) (later : List Float) → releases exit m ≡ true → Calm later → after enter exit b (before ++ (m ∷ later)) ≡ false
  unfolding after latch
  released_at o b [] m later r c =
      stays_released (latch enter exit b m) later (released_step b (releases exit m) (engages enter m) r (released_is_calm o m r)) c
  released_at o b (x ∷ before) m later r c = released_at o (latch enter exit b x) before m later r c

  pub latch_from : lt enter exit ≡ true → (b : Bool) (ms : List Float) → (after enter exit b ms ≡ false) ↔ Flew b ms
  latch_from o b ms = (looked_back b ms, back)
    where
      back : Flew b ms → after enter exit b ms ≡ false
      back (inl (e, c)) = stays_released b ms e c
      back (inr f) = rw f.split (released_at o b f.before f.margin f.later f.above f.calm)

  -- The user's third demand: "The planner's command is passed on at a tick exactly if some tick, this one or an earlier one, had a finite margin
  -- above the upper threshold, and no tick after that one, up to and including this, had a margin that was non-finite or below the lower one."
  pub latch_flies : lt enter exit ≡ true → (ms : List Float) → (engaged_after enter exit ms ≡ false) ↔ Flies enter exit ms
  latch_flies o ms = (λ e. fresh (looked_back true ms e), λ f. (latch_from o true ms).1 (inr f))
    where
      fresh : Flew true ms → Flies enter exit ms
      fresh (inl (e, c)) = no (sym e)
      fresh (inr f) = f

  -- ---- every flag of a run: the one at k is that after the margins up to and including the one at k

  pub flags_length : (b : Bool) (ms : List Float) → length (flags_from enter exit b ms) ≡ length ms
  unfolding flags_from
  flags_length b [] = refl
  flags_length b (m ∷ ms) = ap suc (flags_length (latch enter exit b m) ms)

  pub flag_from : (b : Bool) (ms : List Float) (k : ℕ) → k < length ms → get_or (flags_from enter exit b ms) k true ≡ after enter exit b (take (suc k) ms)
  unfolding flags_from after
  flag_from b [] k h = absurd (omega arith)
  flag_from b (m ∷ ms) zero h = refl
  flag_from b (m ∷ ms) (suc k) h = flag_from (latch enter exit b m) ms k (le_of_suc-le-suc h)

  pub flag_flies : lt enter exit ≡ true → (ms : List Float) (k : ℕ) → k < length ms → (get_or (flags enter exit ms) k true ≡ false) ↔ Flies enter exit (take (suc k) ms)
  flag_flies o ms k h = rw (flag_from true ms k h) (latch_flies o (take (suc k) ms))

  -- ---- the same by places

  calm_by_place : (ms : List Float) → ((j : ℕ) → j < length ms → engages enter (get_or ms j nan) ≡ false) → Calm ms
  calm_by_place [] f x h = absurd (Memᴰ.not-nil h)
  calm_by_place (m ∷ ms) f x h = calm_cons m ms (f 0 (zero-lt-suc (length ms))) (calm_by_place ms (λ j l. f (suc j) (suc-le-suc l))) x h

  member : (ms : List Float) (j : ℕ) → j < length ms → Memᴰ (get_or ms j nan) ms
  member [] j h = absurd (omega arith)
  member (m ∷ ms) zero h = Memᴰ.head refl
  member (m ∷ ms) (suc j) h = Memᴰ.tail (member ms j (le_of_suc-le-suc h))

  module _ (ms : List Float) (k : ℕ) (h : k < length ms) where
    abbrev up_to : List Float
    up_to = take (suc k) ms

    ends : length up_to ≡ suc k
    ends = length-take-le (suc k) ms h

    -- the place t after the release, in the run and in what follows the release
    same_place : (f : Flies enter exit up_to) (t : ℕ) → length f.before + t ≤ k → get_or ms (length f.before + t) nan ≡ get_or (f.margin ∷ f.later) t nan
    same_place f t l =
        sym (get_or-take (suc k) ms (length f.before + t) nan (suc-le-suc l))
        ∙ ap (λ (x : List Float). get_or x (length f.before + t) nan) f.split
        ∙ get_or-append-add f.before (f.margin ∷ f.later) t nan

    whole : (f : Flies enter exit up_to) → length f.before + suc (length f.later) ≡ suc k
    whole f = sym (length-append f.before (f.margin ∷ f.later)) ∙ ap length (sym f.split) ∙ ends

    to_places : Flies enter exit up_to → FliesAt enter exit ms k
    to_places f = record {
      i = length f.before;
      reached = omega (arith, whole f);
      above = subst (λ (x : ℕ). releases exit (get_or ms x nan) ≡ true) (add-zero (length f.before)) (rw (same_place f 0 (omega (arith, whole f))) f.above);
      calm = λ j l u.
          let t : ℕ = j - suc (length f.before) in let e : length f.before + suc t ≡ j = omega arith in
          subst (λ (x : ℕ). engages enter (get_or ms x nan) ≡ false) e
          (rw (same_place f (suc t) (omega arith)) (f.calm (get_or f.later t nan) (member f.later t (omega (arith, whole f)))));
    }

    from_places : FliesAt enter exit ms k → Flies enter exit up_to
    from_places g = record {
      before = take g.i up_to;
      margin = get_or up_to g.i nan;
      later = drop (suc g.i) up_to;
      split = split_at up_to g.i nan (omega (arith, ends, g.reached));
      above = rw (get_or-take (suc k) ms g.i nan (suc-le-suc g.reached)) g.above;
      calm = calm_by_place (drop (suc g.i) up_to) (λ t l.
          rw (get_or-drop (suc g.i) up_to t nan, get_or-take (suc k) ms (suc g.i + t) nan (omega (arith, length-drop (suc g.i) up_to, ends)))
          (g.calm (suc g.i + t) (omega arith) (omega (arith, length-drop (suc g.i) up_to, ends))));
    }

    pub flag_flies_at : lt enter exit ≡ true → (get_or (flags enter exit ms) k true ≡ false) ↔ FliesAt enter exit ms k
    flag_flies_at o = (λ e. to_places ((flag_flies o ms k h).0 e), λ g. (flag_flies o ms k h).1 (from_places g))

-- ---- document 01: "+infinity is possible; then the planner never flies"

nothing_above : (m : Float) → releases (inf false) m ≡ false
unfolding is_finite lt
nothing_above nan = refl
nothing_above (inf s) = refl
nothing_above (fin s m e) = refl

pub infinite_exit_never_flies : (enter : Float) (ms : List Float) → engaged_after enter (inf false) ms ≡ true
unfolding after latch
infinite_exit_never_flies enter [] = refl
infinite_exit_never_flies enter (m ∷ ms) = rw (nothing_above m) (infinite_exit_never_flies enter ms)
