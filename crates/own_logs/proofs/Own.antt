-- Completeness of request Ten: every log of one run of ours is all right. Assumes nothing.
use Rattle.laws.proofs.Prelude.{◌≡◌, refl, sym, ap, subst, ◌∙◌, Bool, true, false, List, [], ◌∷◌, ◌++◌, ℕ, Float, length}
use Rattle.std.proofs.Common.{None}
use Rattle.words.specs.Words.{word, float, bytes_of}
use Rattle.latch.specs.Latch.{after}
use Rattle.relay_geo.specs.{declared.shield.SimplexShield.SimplexShield, Shield.{mend_thresholds, new_shield}}
use Rattle.joint_tick.specs.{declared.state.State.State, Profile.{is_profile, profile_of}, SetUp.set_up}
use Rattle.image.{specs.{Layout.{setup_enter, setup_exit, setup_profile}, Image.fixed_at, Inputs.setup_at}, proofs.Decoded.decode_encode}
use Rattle.outcome.specs.{Outcomes.{Done, is_done, left}}
use Rattle.lent_tick.{specs.Steps.shield_at, proofs.NeverRefused.set_up_fits}
use Rattle.flight_log.{specs.{Form.is_log, Records.records, Runs.{ToAppend, NoneRefused, records_of, at_first}}, proofs.Reading.{kept_all, records_kept, never_refused}}
use Rattle.runs.specs.{Runs.{Call, Ticks, Exchanges, tick_of, left_by, margins_by, start, image_after}, DemandThree.{enter_of, exit_of}}
use Rattle.runs.proofs.Induction.{call_steps, start_engaged, thresholds_in_order, thresholds_kept, ran}
use Rattle.audit.{specs.{Verdict.verdict_of, Entry.{verdict_on, check_call}}, proofs.{Carried.{Carried, carried_right}, VerdictCall.taken}}
use Rattle.own_logs.specs.Own.{keeps_of, keeps_along, ticks_kept, own_log}
use Rattle.own_logs.proofs.RecordRight.{margin_kept, right_kept}

-- ---- the records of a run, call by call

records_in_turn : (xs ys : List ToAppend) → records_of (xs ++ ys) ≡ records_of xs ++ records_of ys
unfolding records_of
records_in_turn [] ys = refl
records_in_turn (g ∷ xs) ys = ap (λ (rs : List (List ℕ)). (g.input ++ g.answer) ∷ rs) (records_in_turn xs ys)

pub next_kept : (image : List ℕ) (c : Call) (calls : List Call) → ticks_kept image (c ∷ calls) ≡ records_of (keeps_of image c) ++ ticks_kept (left_by image c) calls
unfolding keeps_along
next_kept image c calls = records_in_turn (keeps_of image c) (keeps_along (left_by image c) calls)

-- ---- each of them is right by the flag that the shield carries along

after_one_lem : (image : List ℕ) (calls : List Call) (c : Call) → image_after image (calls ++ c ∷ []) ≡ left_by (image_after image calls) c
unfolding image_after
after_one_lem image [] c = refl
after_one_lem image (x ∷ calls) c = after_one_lem (left_by image x) calls c

module _ (setup : List ℕ) (p : is_profile (word setup setup_profile) ≡ true) where
  abbrev Right : Bool → List (List ℕ) → Type 0
  Right before rs = Carried (profile_of (word setup setup_profile)) (enter_of setup) (exit_of setup) before rs

  module _ (calls : List Call) where
    abbrev image : List ℕ
    image = image_after (start setup) calls

    -- the flag that a call leaves
    engaged_after_lem : (c : Call) → (shield_at (left_by image c)).engaged ≡ after (enter_of setup) (exit_of setup) (shield_at image).engaged (margins_by image c)
    unfolding fixed_at
    engaged_after_lem c =
        ap (λ (h : SimplexShield). h.engaged) (call_steps image c (ran setup calls).unbroken).shield
        ∙ rw ((thresholds_kept setup calls).0, (thresholds_kept setup calls).1)

    -- the record of a call, if it has one, and what follows
    one_right : (c : Call) (rs : List (List ℕ)) → Right (shield_at (left_by image c)).engaged rs → Right (shield_at image).engaged (records_of (keeps_of image c) ++ rs)
    unfolding keeps_of records_of margins_by after
    one_right (Exchanges segment) rs r = subst (λ (b : Bool). Right b rs) (engaged_after_lem (Exchanges segment)) r
    one_right (Ticks t) rs r = go (is_done (tick_of image t).outcome) refl (subst (λ (b : Bool). Right b rs) (engaged_after_lem (Ticks t)) r)
      where
        go : (b : Bool) → is_done (tick_of image t).outcome ≡ b → Right (after (enter_of setup) (exit_of setup) (shield_at image).engaged (margins_by image (Ticks t))) rs
            → Right (shield_at image).engaged (records_of (keeps_of image (Ticks t)) ++ rs)
        go true d r = rw d (right_kept setup calls t p d, rw (margin_kept setup calls t p d) (rw d at r))
        go false d r = rw d (rw d at r)

  along : (before calls : List Call) → let image = image_after (start setup) before in Right (shield_at image).engaged (ticks_kept image calls)
  unfolding keeps_along records_of
  along before [] = tt
  along before (c ∷ calls) =
      let image = image_after (start setup) before in
      rw (next_kept image c calls)
      (one_right before c (ticks_kept (left_by image c) calls)
      (subst (λ (later : List ℕ). Right (shield_at later).engaged (ticks_kept later calls)) (after_one_lem (start setup) before c) (along (before ++ c ∷ []) calls)))

  -- ---- set-up's thresholds are what the check mends

  thresholds : (enter_of setup ≡ (mend_thresholds (float setup setup_enter) (float setup setup_exit)).enter)
      × (exit_of setup ≡ (mend_thresholds (float setup setup_enter) (float setup setup_exit)).exit)
  unfolding start set_up setup_at new_shield fixed_at
  thresholds =
      let e = decode_encode (set_up (setup_at setup)) (set_up_fits setup) in
      (ap (λ (s : State). s.fixed.enter) e, ap (λ (s : State). s.fixed.exit) e)

  -- "Any log of every tick of one run from our own set-up, given with that set-up's enter, exit and profile, is accepted": plain and route ticks in any order, with
  -- exchanges and refused calls between, in both profiles. Any bytes whose records are these, however they came to be: grown in one buffer, moved to a longer one, copied.
  module _ (log : List ℕ) (calls : List Call) (e : records log ≡ ticks_kept (start setup) calls) where
    pub any_log_right : verdict_on log (word setup setup_profile) (float setup setup_enter) (float setup setup_exit) ≡ None
    unfolding verdict_on image_after
    any_log_right =
        let by = profile_of (word setup setup_profile) in
        let t = mend_thresholds (float setup setup_enter) (float setup setup_exit) in
        let rs = ticks_kept (start setup) calls in
        ap (λ (l : List (List ℕ)). verdict_of by t.enter t.exit l) e
        ∙ ap (λ (x : Float). verdict_of by x t.exit rs) (sym thresholds.0)
        ∙ ap (λ (x : Float). verdict_of by (enter_of setup) x rs) (sym thresholds.1)
        ∙ carried_right by (enter_of setup) (exit_of setup) (thresholds_in_order setup) rs (subst (λ (b : Bool). Right b rs) (start_engaged setup) (along [] calls))

    -- and by the call's bytes
    pub any_log_accepted : is_log log ≡ true → (into : List ℕ) → length into ≡ 4
        → check_call log (word setup setup_profile) (float setup setup_enter) (float setup setup_exit) into ≡ left Done (bytes_of (0xffff_ffff ∷ []))
    any_log_accepted l into h = taken log (word setup setup_profile) (float setup setup_enter) (float setup setup_exit) into h l p ∙ rw any_log_right

  -- so the log that our append makes in one buffer, if it refuses no accepted tick
  pub own_log_accepted : (beyond : List ℕ) (calls : List Call) → NoneRefused (at_first beyond) (keeps_along (start setup) calls) → (into : List ℕ) → length into ≡ 4
      → check_call (own_log setup beyond calls) (word setup setup_profile) (float setup setup_enter) (float setup setup_exit) into ≡ left Done (bytes_of (0xffff_ffff ∷ []))
  own_log_accepted beyond calls k =
      let gs = keeps_along (start setup) calls in
      any_log_accepted (own_log setup beyond calls) calls (records_kept beyond gs ∙ kept_all (at_first beyond) gs k) (never_refused beyond gs)
