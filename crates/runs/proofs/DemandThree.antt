-- The user's third demand on bytes, over every run. Assumes nothing.
use Rattle.laws.proofs.Prelude.{◌≡◌, subst, ◌↔◌, List, [], ◌∷◌, ◌++◌, map, ℕ, zero, suc, ◌<◌, suc-le-suc, le_of_suc-le-suc, zero-lt-suc, arith, Float, nan, length, get_or, take}
use Rattle.latch.{specs.Latch.{Flies, FliesAt}, proofs.LatchFlies.{latch_flies, flag_flies, flag_flies_at}}
use Rattle.lent_tick.specs.Unbroken.{Unbroken}
use Rattle.runs.specs.{Runs.{Tick, Call, Ticks, left_by, guided, margins_by, start, image_after, margins_along, Right, AllRight, tick_at, image_at}, DemandThree.{enter_of, exit_of, Shows}}
use Rattle.runs.proofs.{Shown.{tick_done, shows}, Induction.{call_steps, start_unbroken, thresholds_in_order, ran, latched_along}}

-- "Take any run of accepted ticks from set-up, the image handed back each time as the last tick left it, with margins as document 01 works them
-- out. The planner's command is passed on at a tick exactly if some tick, this one or an earlier one, had a finite margin above the upper
-- threshold, and no tick after that one, up to and including this, had a margin that was non-finite or below the lower one. What is passed on is
-- that command with non-finite numbers made zero, else the fallback treated alike, and the flag names which."
--
-- Here for any bytes given to set-up, any calls since (an exchange is no tick; a refused call changes nothing), and now a tick, on the image's segment or on a
-- route, that is given right lengths and a right route.
pub demand_three : (setup : List ℕ) (calls : List Call) (t : Tick) → Right t
    → let image = image_after (start setup) calls in
    let margins = margins_along (start setup) calls ++ (guided image t).margin ∷ [] in
    Shows (Flies (enter_of setup) (exit_of setup) margins) image t
demand_three setup calls t r =
    let image = image_after (start setup) calls in
    let margins = margins_along (start setup) calls ++ (guided image t).margin ∷ [] in
    shows image t (ran setup calls).unbroken r (Flies (enter_of setup) (exit_of setup) margins)
    (rw (latched_along setup calls t) (latch_flies (enter_of setup) (exit_of setup) (thresholds_in_order setup) margins))

-- ---- the same by places, for a list of ticks that are given what they should be

-- such a tick has its one margin
one_margin : (image : List ℕ) (t : Tick) → Unbroken image → Right t → margins_by image (Ticks t) ≡ (guided image t).margin ∷ []
unfolding margins_by
one_margin image t a r = rw (tick_done image t a r)

abbrev pub margin_at : List ℕ → List Tick → ℕ → Float
margin_at image ticks k = (guided (image_at image ticks k) (tick_at ticks k)).margin

-- The margins up to and including the one at k are those of the ticks before it, and its own.
record UpTo (image : List ℕ) (ticks : List Tick) (k : ℕ) : Type 0 where
  pub within : k < length (margins_along image (map Ticks ticks))
  pub own : get_or (margins_along image (map Ticks ticks)) k nan ≡ margin_at image ticks k
  pub all : take (suc k) (margins_along image (map Ticks ticks)) ≡ margins_along image (map Ticks (take k ticks)) ++ margin_at image ticks k ∷ []

up_to_lem : (image : List ℕ) (ticks : List Tick) → Unbroken image → AllRight ticks → (k : ℕ) → k < length ticks → UpTo image ticks k
unfolding image_after margins_along
up_to_lem image [] a r k h = absurd (omega arith)
up_to_lem image (t ∷ ts) a r zero h =
    let e = one_margin image t a r.0 in
    record { within = rw e (zero-lt-suc _); own = rw e; all = rw e }
up_to_lem image (t ∷ ts) a r (suc k) h =
    let e = one_margin image t a r.0 in
    let u = up_to_lem (left_by image (Ticks t)) ts (call_steps image (Ticks t) a).unbroken r.1 k (le_of_suc-le-suc h) in
    record { within = rw e (suc-le-suc u.within); own = rw e u.own; all = rw (e, u.all) }

right_at_lem : (ticks : List Tick) → AllRight ticks → (k : ℕ) → k < length ticks → Right (tick_at ticks k)
right_at_lem [] r k h = absurd (omega arith)
right_at_lem (t ∷ ts) r zero h = r.0
right_at_lem (t ∷ ts) r (suc k) h = right_at_lem ts r.1 k (le_of_suc-le-suc h)

module _ (setup : List ℕ) (ticks : List Tick) (r : AllRight ticks) (k : ℕ) (h : k < length ticks) where
  abbrev margins : List Float
  margins = margins_along (start setup) (map Ticks ticks)

  up_to : UpTo (start setup) ticks k
  up_to = up_to_lem (start setup) ticks (start_unbroken setup) r k h

  -- margin number k is the one that the documents work out at tick number k
  pub margin_at_lem : get_or margins k nan ≡ margin_at (start setup) ticks k
  margin_at_lem = up_to.own

  -- the two ways to say the rule, at the end of the list of margins and at a place of a longer one
  flies_at : Flies (enter_of setup) (exit_of setup) (margins_along (start setup) (map Ticks (take k ticks)) ++ margin_at (start setup) ticks k ∷ [])
      ↔ FliesAt (enter_of setup) (exit_of setup) margins k
  flies_at =
      let o = thresholds_in_order setup in
      let at-end = flag_flies (enter_of setup) (exit_of setup) o margins k up_to.within in
      let at_place = flag_flies_at (enter_of setup) (exit_of setup) margins k up_to.within o in
      subst (λ (ms : List Float). Flies (enter_of setup) (exit_of setup) ms ↔ FliesAt (enter_of setup) (exit_of setup) margins k) up_to.all
      (λ f. at_place.0 (at-end.1 f), λ g. at-end.0 (at_place.1 g))

  -- At tick number k of any list of ticks of both kinds: the flag is 0 exactly if some tick i, up to and including k, had a finite margin above exit,
  -- and no tick j after i, up to and including k, had one that was non-finite or below enter.
  pub demand_three_at : Shows (FliesAt (enter_of setup) (exit_of setup) margins k) (image_at (start setup) ticks k) (tick_at ticks k)
  demand_three_at =
      let d = demand_three setup (map Ticks (take k ticks)) (tick_at ticks k) (right_at_lem ticks r k h) in
      record {
        accepted = d.accepted;
        flag = d.flag;
        flies = (λ e. flies_at.0 (d.flies.0 e), λ g. d.flies.1 (flies_at.1 g));
        planner = d.planner;
        fallback = d.fallback;
        margin = d.margin;
        margin_read = d.margin_read;
      }
