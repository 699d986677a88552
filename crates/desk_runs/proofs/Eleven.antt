-- 11 is "at set-up alone", the core's (request Twelve): no call on a desk gives it. Assumes nothing.
use Rattle.std.specs.Prelude.{Ok, Err}
use Rattle.laws.proofs.Prelude.{◌≡◌, Bool, true, false, cond, List, ℕ, ap, arith}
use Rattle.outcome.specs.{declared.Refusal.TheVariants.PassThrough, Outcomes.{Outcome, Done, number, differs}}
use Rattle.runs.proofs.Gyro.{no_tick_gives_eleven, no_route_tick_gives_eleven}
use Rattle.desk.specs.{declared.entry.DeskRefusal.TheVariants.{DeskLength, SticksLength, Core}, Filters.{desk_bytes, desk_setup_bytes, sticks_bytes}}
use Rattle.desk.specs.Entry.{DeskDone, of_core, desk_number, desk_refusal, DeskCourse, OnSegment, OnRoute, core_refusal, tick_refusal_at}

-- the desk's own two are 15 and 16, and the rest is the core's
not_eleven : (a b : Bool) (o : Outcome) → ¬ (o ≡ Err PassThrough) → ¬ (cond a (Err DeskLength) (cond b (Err SticksLength) (of_core o)) ≡ Err (Core PassThrough))
not_eleven true b o n e = let f : ◌≡◌ {A = ℕ} 15 11 = ap desk_number e in absurd (omega (arith, f))
not_eleven false true o n e = let f : ◌≡◌ {A = ℕ} 16 11 = ap desk_number e in absurd (omega (arith, f))
not_eleven false false (Ok u) n e = let f : ◌≡◌ {A = ℕ} 0 11 = ap desk_number e in absurd (omega (arith, f))
not_eleven false false (Err x) n e = let f : x ≡ PassThrough = cc in n (ap Err f)

done_is_not : ¬ (Done ≡ Err PassThrough)
done_is_not e = let f : ◌≡◌ {A = ℕ} 0 11 = ap number e in absurd (omega (arith, f))

-- on the image's segment or on a route
pub no_desk_tick_gives_eleven : (course : DeskCourse) (deskLen sticksLen : ℕ) (image : List ℕ) (inputLen answerLen : ℕ)
    → ¬ (tick_refusal_at course deskLen sticksLen image inputLen answerLen ≡ Err (Core PassThrough))
unfolding tick_refusal_at
no_desk_tick_gives_eleven course deskLen sticksLen image inputLen answerLen =
    not_eleven (differs deskLen desk_bytes) (differs sticksLen sticks_bytes) (core_refusal course image inputLen answerLen) (core course)
  where
    core : (course : DeskCourse) → ¬ (core_refusal course image inputLen answerLen ≡ Err PassThrough)
    core OnSegment = no_tick_gives_eleven image inputLen answerLen
    core (OnRoute route) = no_route_tick_gives_eleven image route inputLen answerLen

pub no_desk_set_up_gives_eleven : (deskLen inputLen : ℕ) → ¬ (desk_refusal deskLen inputLen desk_setup_bytes DeskDone ≡ Err (Core PassThrough))
no_desk_set_up_gives_eleven deskLen inputLen = not_eleven (differs deskLen desk_bytes) (differs inputLen desk_setup_bytes) Done done_is_not

-- the button's refusal has no second row
pub no_centre_gives_eleven : (deskLen : ℕ) → ¬ (cond (differs deskLen desk_bytes) (Err DeskLength) DeskDone ≡ Err (Core PassThrough))
no_centre_gives_eleven deskLen = not_eleven (differs deskLen desk_bytes) false Done done_is_not
