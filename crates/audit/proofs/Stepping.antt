-- "its flags are those that its own margin words demand from a fresh shield": the flag that a record is held to is that shield's, stepped. Assumes nothing.
use Rattle.laws.proofs.Prelude.{◌≡◌, sym, ap, ◌∙◌, true, Bool, List, [], ℕ, ◌<◌, T, Float, binary32, fits, length, get_or, length-map}
use Rattle.relay_geo.specs.{declared.set.RecoverableSet.RecoverableSet, Shield.{mend_thresholds, new_shield}}
use Rattle.joint_tick.specs.declared.profile.Profile.{Profile}
use Rattle.slow_shield.{specs.{Back.slow_flags, Stepping.{StepGiven, margins_given, stepped_flags}}, proofs.Slow.{flag_to, slow_is_stepping}}
use Rattle.audit.specs.Right.{margin_in, margins_in, right, right_at}

-- of any set, by thresholds given as any f32, stepped by the log's margins with whatever commands: a record is right exactly as the flag of its own step asks
pub right_by_stepping : (set : RecoverableSet) (enter exit : Float) → T (fits binary32 enter) → (profile : Profile) (rs : List (List ℕ)) (gs : List StepGiven) → margins_given gs ≡ margins_in rs
    → (i : ℕ) → i < length rs
    → right_at profile (mend_thresholds enter exit).enter (mend_thresholds enter exit).exit rs i ≡ right profile (get_or (stepped_flags (new_shield set enter exit) gs) i true) (get_or rs i [])
unfolding right_at
right_by_stepping set enter exit f profile rs gs e i h =
    let t = mend_thresholds enter exit in
    let l : i < length (margins_in rs) = rw (length-map rs margin_in) h in
    ap (λ (demanded : Bool). right profile demanded (get_or rs i []))
    (sym (flag_to t.enter t.exit (margins_in rs) (length (margins_in rs)) i l)
    ∙ ap (λ (bs : List Bool). get_or bs i true) (ap (slow_flags t.enter t.exit) (sym e) ∙ slow_is_stepping set enter exit f gs))
