-- A log of every accepted tick of one run by the desk is accepted. Assumes nothing.
use Rattle.laws.proofs.Prelude.{◌≡◌, refl, sym, ap, ◌∙◌, Bool, true, false, cond, List, [], ◌∷◌, ◌++◌, ℕ, length}
use Rattle.words.specs.Words.{word, float, bytes_of}
use Rattle.image.specs.Layout.{setup_enter, setup_exit, setup_profile}
use Rattle.joint_tick.specs.Profile.{is_profile}
use Rattle.outcome.specs.{Outcomes.{Done, left, Called}}
use Rattle.flight_log.specs.{Form.is_log, Records.records, Runs.records_of}
use Rattle.runs.specs.Runs.{Call, flying, left_by, start, Ticks as CoreTicks}
use Rattle.audit.specs.Entry.{check_call}
use Rattle.own_logs.{specs.Own.{keeps_of, keeps_along, ticks_kept}, proofs.Own.{next_kept, any_log_accepted}}
use Rattle.desk.{specs.Entry.{desk_done, LentToDesk}, proofs.DeskCalls.refused_changes_nothing}
use Rattle.desk_runs.specs.Runs.{DeskAndImage, desk_and_image, DeskGiven, by_desk, AnyCall, ByDesk, Button, OnCore, desk_tick, held_by, flown_tick, core_calls, core_along, records_by, records_along}
use Rattle.desk_runs.proofs.Seen.{flown_by_core}

-- an accepted desk tick is logged as the core's tick of the input that it left, which leaves the same image
kept : (h : DeskAndImage) (g : DeskGiven) → desk_done (desk_tick h g).outcome ≡ true
    → (records_of (keeps_of h.image (CoreTicks (flown_tick h g))) ≡ ((desk_tick h g).later.input ++ (desk_tick h g).later.answer) ∷ [])
    × (left_by h.image (CoreTicks (flown_tick h g)) ≡ (desk_tick h g).later.image)
unfolding keeps_of records_of left_by flying
kept h g e =
    let s = flown_by_core h g e in
    (rw s, ap (λ (c : Called). c.later.image) s)

-- the records are those of the run that the core sees
records_are : (h : DeskAndImage) (calls : List AnyCall) → records_along h calls ≡ ticks_kept h.image (core_along h calls)
unfolding core_along core_calls keeps_along records_of records_along records_by held_by
records_are h [] = refl
records_are h (Button ∷ calls) = records_are (held_by h Button) calls
records_are h (OnCore c ∷ calls) =
    ap (λ (l : List (List ℕ)). records_of (keeps_of h.image c) ++ l) (records_are (held_by h (OnCore c)) calls) ∙ sym (next_kept h.image c (core_along (held_by h (OnCore c)) calls))
records_are h (ByDesk g ∷ calls) = go (desk_done (desk_tick h g).outcome) refl (records_are (held_by h (ByDesk g)) calls)
  where
    later : LentToDesk
    later = (desk_tick h g).later

    after : DeskAndImage
    after = desk_and_image later.desk later.image

    rest : List Call
    rest = core_along after calls

    go : (t : Bool) → desk_done (desk_tick h g).outcome ≡ t → records_along after calls ≡ ticks_kept later.image rest
        → cond t ((later.input ++ later.answer) ∷ []) [] ++ records_along after calls ≡ ticks_kept h.image (cond t (CoreTicks (flown_tick h g) ∷ []) [] ++ rest)
    go true e more =
        let c = CoreTicks (flown_tick h g) in let k = kept h g e in
        ap (λ (l : List (List ℕ)). l ++ records_along after calls) (sym k.0)
        ∙ ap (λ (l : List (List ℕ)). records_of (keeps_of h.image c) ++ l) (more ∙ ap (λ (image : List ℕ). ticks_kept image rest) (sym k.1))
        ∙ sym (next_kept h.image c rest)
    go false e more = more ∙ ap (λ (l : LentToDesk). ticks_kept l.image rest) (refused_changes_nothing (by_desk g.course) h.desk g.sticks h.image g.input g.answer e)

-- Request Ten's completeness for the desk: any bytes whose records are those of a run of desk ticks, the button and calls on the core alone, from any desk.
pub desk_log_accepted : (desk setup : List ℕ) (calls : List AnyCall) → is_profile (word setup setup_profile) ≡ true
    → (log : List ℕ) → is_log log ≡ true → records log ≡ records_along (desk_and_image desk (start setup)) calls → (into : List ℕ) → length into ≡ 4
    → check_call log (word setup setup_profile) (float setup setup_enter) (float setup setup_exit) into ≡ left Done (bytes_of (0xffff_ffff ∷ []))
desk_log_accepted desk setup calls p log l e =
    let h = desk_and_image desk (start setup) in
    any_log_accepted setup p log (core_along h calls) (e ∙ records_are h calls) l
