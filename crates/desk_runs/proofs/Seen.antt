-- A run with a desk is, for the core, a run of its own calls, and for the desk one of the desk's. Assumes nothing.
use Rattle.laws.proofs.Prelude.{◌≡◌, refl, sym, ap, ◌∙◌, Bool, true, false, cond, List, [], ◌∷◌, ◌++◌, ℕ, length, neg}
use Rattle.outcome.specs.{Outcomes.{Done, left, lent, Called}}
use Rattle.runs.specs.Runs.{Course, Segment, Route, Call, flying, tick_of, left_by, image_after, Ticks as CoreTicks}
use Rattle.relay_math.specs.F32.{Within as Between}
use Rattle.relay_adrc.proofs.FilterLimits.{Limit, Held as Within}
use Rattle.desk.specs.{Entry.{desk_done, LentToDesk, core_call}, Filters.{desk_bytes, desk_at}, Runs.{Stick, filter_of, mag_limit, rate_limit, DeskCall, desk_by, desk_after, desk_start}}
use Rattle.desk.proofs.{DeskCalls.{refused_changes_nothing, is_core_tick}, Held.{size_kept, sticks_held}, Within.sticks_within}
use Rattle.desk_runs.specs.Runs.{DeskAndImage, desk_and_image, DeskGiven, by_desk, AnyCall, ByDesk, Button, OnCore, desk_tick, held_by, held_after, flown_tick, core_calls, core_along, desk_calls}
use Rattle.desk_runs.specs.Runs.{desk_along}

-- ---- the core

-- an accepted desk tick is the core's tick of the input that it left, on the same course
pub flown_by_core : (h : DeskAndImage) (g : DeskGiven) → desk_done (desk_tick h g).outcome ≡ true
    → let l = (desk_tick h g).later in tick_of h.image (flown_tick h g) ≡ left Done (lent l.image l.answer)
unfolding flying
flown_by_core h g e = flies g.course _ _ _ ∙ is_core_tick (by_desk g.course) h.desk g.sticks h.image g.input g.answer e
  where
    flies : (c : Course) (image input answer : List ℕ) → flying c image input answer ≡ core_call (by_desk c) image input answer
    flies Segment image input answer = refl
    flies (Route route) image input answer = refl

image_by : (h : DeskAndImage) (c : AnyCall) → (held_by h c).image ≡ image_after h.image (core_calls h c)
unfolding held_by core_calls image_after left_by flying
image_by h (OnCore c) = refl
image_by h Button = refl
image_by h (ByDesk g) = go (desk_done (desk_tick h g).outcome) refl
  where
    go : (t : Bool) → desk_done (desk_tick h g).outcome ≡ t → (desk_tick h g).later.image ≡ image_after h.image (cond t (CoreTicks (flown_tick h g) ∷ []) [])
    go true e = sym (ap (λ (c : Called). c.later.image) (flown_by_core h g e))
    go false e = ap (λ (l : LentToDesk). l.image) (refused_changes_nothing (by_desk g.course) h.desk g.sticks h.image g.input g.answer e)

after_append : (image : List ℕ) (a b : List Call) → image_after (image_after image a) b ≡ image_after image (a ++ b)
unfolding image_after
after_append image [] b = refl
after_append image (c ∷ a) b = after_append (left_by image c) a b

pub core_sees : (h : DeskAndImage) (calls : List AnyCall) → (held_after h calls).image ≡ image_after h.image (core_along h calls)
unfolding held_after core_along image_after
core_sees h [] = refl
core_sees h (c ∷ calls) =
    core_sees (held_by h c) calls
    ∙ ap (λ (image : List ℕ). image_after image (core_along (held_by h c) calls)) (image_by h c)
    ∙ after_append h.image (core_calls h c) (core_along (held_by h c) calls)

-- ---- the desk

desk_by_lem : (h : DeskAndImage) (c : AnyCall) → (held_by h c).desk ≡ desk_after h.desk (desk_calls h c)
unfolding held_by desk_calls desk_after desk_by
desk_by_lem h (OnCore c) = refl
desk_by_lem h Button = refl
desk_by_lem h (ByDesk g) = refl

desk_append : (desk : List ℕ) (a b : List DeskCall) → desk_after (desk_after desk a) b ≡ desk_after desk (a ++ b)
unfolding desk_after
desk_append desk [] b = refl
desk_append desk (c ∷ a) b = desk_append (desk_by desk c) a b

pub desk_sees : (h : DeskAndImage) (calls : List AnyCall) → (held_after h calls).desk ≡ desk_after h.desk (desk_along h calls)
unfolding held_after desk_along desk_after
desk_sees h [] = refl
desk_sees h (c ∷ calls) =
    desk_sees (held_by h c) calls
    ∙ ap (λ (desk : List ℕ). desk_after desk (desk_along (held_by h c) calls)) (desk_by_lem h c)
    ∙ desk_append h.desk (desk_calls h c) (desk_along (held_by h c) calls)

pub desk_size : (h : DeskAndImage) (calls : List AnyCall) → length h.desk ≡ desk_bytes → length (held_after h calls).desk ≡ desk_bytes
desk_size h calls p = ap length (desk_sees h calls) ∙ size_kept h.desk (desk_along h calls) p

-- so the sticks' limits hold over these runs too
pub sticks_held_along : (s : Stick) (setup image : List ℕ) (calls : List AnyCall) → Limit (mag_limit s setup) → Limit (rate_limit s setup)
    → Within (filter_of s (desk_at (held_after (desk_and_image (desk_start setup) image) calls).desk))
sticks_held_along s setup image calls m r = rw (desk_sees (desk_and_image (desk_start setup) image) calls) (sticks_held s setup (desk_along (desk_and_image (desk_start setup) image) calls) m r)

-- and by the limits that the desk's set-up was given, each number by its own
pub sticks_within_along : (s : Stick) (setup image : List ℕ) (calls : List AnyCall)
    → let f = filter_of s (desk_at (held_after (desk_and_image (desk_start setup) image) calls).desk) in
    (Limit (mag_limit s setup) → Between (neg (mag_limit s setup)) (mag_limit s setup) f.y) × (Limit (rate_limit s setup) → Between (neg (rate_limit s setup)) (rate_limit s setup) f.yd)
sticks_within_along s setup image calls = rw (desk_sees (desk_and_image (desk_start setup) image) calls) (sticks_within s setup (desk_along (desk_and_image (desk_start setup) image) calls))
