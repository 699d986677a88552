-- The user's third demand over runs by the desk. Assumes nothing.
use Rattle.laws.proofs.Prelude.{◌≡◌, sym, ap, subst, ◌∙◌, List, [], ◌∷◌, ◌++◌, ℕ, length}
use Rattle.latch.specs.Latch.{Flies}
use Rattle.image.specs.Layout.{input_bytes, answer_bytes}
use Rattle.outcome.specs.Outcomes.{Called}
use Rattle.lent_tick.specs.Unbroken.{Unbroken}
use Rattle.runs.specs.{Runs.{Course, Segment, Route, Tick, tick_of, guided, start, margins_along, RightCourse, Right}, DemandThree.{enter_of, exit_of, Shows}}
use Rattle.runs.proofs.{Induction.ran, DemandThree.demand_three}
use Rattle.desk.{specs.{Filters.{desk_bytes, sticks_bytes}, Entry.{desk_number, desk_done, GoodCourse}}, proofs.DeskCalls.{tick_accepted, input_length}}
use Rattle.desk_runs.specs.Runs.{desk_and_image, DeskGiven, by_desk, AnyCall, desk_tick, held_after, flown_tick, core_along}
use Rattle.desk_runs.proofs.Seen.{flown_by_core, core_sees, desk_size}

-- Demand 3 as crate `runs` has it, of a plain tick or a tick on a route: for any desk, any bytes given to the core's set-up and any calls since (desk ticks, the button,
-- calls on the core alone; refused ones among them).
pub demand_three_beside_desk : (desk setup : List ℕ) (calls : List AnyCall) (t : Tick) → Right t
    → let h = held_after (desk_and_image desk (start setup)) calls in
    let margins = margins_along (start setup) (core_along (desk_and_image desk (start setup)) calls) ++ (guided h.image t).margin ∷ [] in
    Shows (Flies (enter_of setup) (exit_of setup) margins) h.image t
demand_three_beside_desk desk setup calls t right =
    let first = desk_and_image desk (start setup) in let before = core_along first calls in
    subst (λ (image : List ℕ). Shows (Flies (enter_of setup) (exit_of setup) (margins_along (start setup) before ++ (guided image t).margin ∷ [])) image t)
    (sym (core_sees first calls)) (demand_three setup before t right)

-- Demand 3 as crate `runs` has it, of a tick by the desk: after the same calls, with a desk of the right length, a desk tick of right lengths, on the image's segment or on a right route.
-- It is accepted, and what it answers is the answer of the core's tick of the input that it left.
pub demand_three_by_desk : (desk setup : List ℕ) (calls : List AnyCall) (g : DeskGiven)
    → RightCourse g.course → length desk ≡ desk_bytes → length g.sticks ≡ sticks_bytes → length g.input ≡ input_bytes → length g.answer ≡ answer_bytes
    → let h = held_after (desk_and_image desk (start setup)) calls in
    let t = flown_tick h g in
    let margins = margins_along (start setup) (core_along (desk_and_image desk (start setup)) calls) ++ (guided h.image t).margin ∷ [] in
    (desk_number (desk_tick h g).outcome ≡ 0) × ((desk_tick h g).later.answer ≡ (tick_of h.image t).later.answer) × Shows (Flies (enter_of setup) (exit_of setup) margins) h.image t
demand_three_by_desk desk setup calls g r p q i a =
    let first = desk_and_image desk (start setup) in let h = held_after first calls in let t = flown_tick h g in
    let unbroken : Unbroken h.image = subst Unbroken (sym (core_sees first calls)) (ran setup (core_along first calls)).unbroken in
    let done = tick_accepted (by_desk g.course) h.desk g.sticks h.image g.input g.answer (good g.course r) (desk_size first calls p) q i a unbroken in
    let right : Right t = (input_length (by_desk g.course) h.desk g.sticks h.image g.input g.answer ∙ i, a, r) in (
      ap desk_number done,
      sym (ap (λ (c : Called). c.later.answer) (flown_by_core h g (ap desk_done done))),
      demand_three_beside_desk desk setup calls t right,
    )
  where
    good : (c : Course) → RightCourse c → GoodCourse (by_desk c)
    good Segment r = r
    good (Route route) r = r
