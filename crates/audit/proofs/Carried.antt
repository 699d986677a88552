-- The flag carried along a list of records, as the shield does: each is right by it exactly if the verdict is "all right"; and so it may be carried over a seam
-- between two logs. Assumes nothing.
use Rattle.laws.proofs.Prelude.{ℕ, zero, suc, ◌<◌, ◌≡◌, refl, sym, ap, subst, ◌∙◌, ◌↔◌, Bool, true, false, List, [], ◌∷◌, ◌++◌, le_of_suc-le-suc, suc-le-suc, zero-lt-suc, arith, eqb, eqb-true}
use Rattle.laws.proofs.Prelude.{Float, lt, of_bits, to_bits, length, get_or, take, replicate, length-map, both}
use Rattle.std.proofs.Common.{None}
use Rattle.relay_math.specs.F32.{f32, is_finite}
use Rattle.words.specs.Words.{flag, word, float, bytes_of}
use Rattle.latch.{specs.Latch.{latch, after}, proofs.LatchFlies.flag_from}
use Rattle.joint_tick.specs.declared.profile.Profile.{Profile, TheVariants.{Whole, LostRotor}}
use Rattle.image.specs.Passed.{passed_on}
use Rattle.slow_shield.{specs.Back.look_back, proofs.Slow.{flag_to, slow_is_latch}}
use Rattle.audit.specs.{Right.{flag_word, passes, passes_third, planners, finites, margin_in, margins_in, right, right_at}, Verdict.verdict_of}
use Rattle.audit.specs.Series.{last_flag, behind, Releasing, joined, PiecesRight}
use Rattle.audit.proofs.Said.{verdict_says}

-- each record is right by the latch of its margin, from a flag on
abbrev pub Carried : Profile → Float → Float → Bool → List (List ℕ) → Type 0
Carried profile enter exit before [] = Unit
Carried profile enter exit before (r ∷ rs) = let now = latch enter exit before (margin_in r) in (right profile now r ≡ true) × Carried profile enter exit now rs

carried_at : (profile : Profile) (enter exit : Float) (before : Bool) (rs : List (List ℕ)) → Carried profile enter exit before rs
    → (i : ℕ) → i < length rs → right profile (after enter exit before (take (suc i) (margins_in rs))) (get_or rs i []) ≡ true
unfolding after
carried_at profile enter exit before [] c i h = absurd (omega arith)
carried_at profile enter exit before (r ∷ rs) c zero h = c.0
carried_at profile enter exit before (r ∷ rs) c (suc i) h = carried_at profile enter exit (latch enter exit before (margin_in r)) rs c.1 i (le_of_suc-le-suc h)

-- a fresh latch over the margins up to a place says what looking back from there does
looked_back : (enter exit : Float) → lt enter exit ≡ true → (ms : List Float) (i : ℕ) → i < length ms → after enter exit true (take (suc i) ms) ≡ look_back enter exit ms (suc i)
looked_back enter exit o ms i h = sym (flag_from enter exit true ms i h) ∙ ap (λ (bs : List Bool). get_or bs i true) (sym (slow_is_latch enter exit ms o)) ∙ flag_to enter exit ms (length ms) i h

pub carried_right : (profile : Profile) (enter exit : Float) → lt enter exit ≡ true → (rs : List (List ℕ)) → Carried profile enter exit true rs → verdict_of profile enter exit rs ≡ None
unfolding right_at
carried_right profile enter exit o rs c = (verdict_says profile enter exit rs None).1 (λ i h.
    ap (λ (demanded : Bool). right profile demanded (get_or rs i [])) (sym (looked_back enter exit o (margins_in rs) i (rw (length-map rs margin_in) h))) ∙ carried_at profile enter exit true rs c i h)

carried_from : (profile : Profile) (enter exit : Float) (before : Bool) (rs : List (List ℕ))
    → ((i : ℕ) → i < length rs → right profile (after enter exit before (take (suc i) (margins_in rs))) (get_or rs i []) ≡ true) → Carried profile enter exit before rs
unfolding after
carried_from profile enter exit before [] f = _
carried_from profile enter exit before (r ∷ rs) f = (f 0 (zero-lt-suc (length rs)), carried_from profile enter exit (latch enter exit before (margin_in r)) rs (λ i h. f (suc i) (suc-le-suc h)))

pub right_carried : (profile : Profile) (enter exit : Float) → lt enter exit ≡ true → (rs : List (List ℕ)) → verdict_of profile enter exit rs ≡ None → Carried profile enter exit true rs
unfolding right_at
right_carried profile enter exit o rs v = carried_from profile enter exit true rs (λ i h.
    ap (λ (demanded : Bool). right profile demanded (get_or rs i [])) (looked_back enter exit o (margins_in rs) i (rw (length-map rs margin_in) h))
    ∙ (verdict_says profile enter exit rs None).0 v i h)

-- ---- a seam, between any records and any that go on from them

-- a right record has the flag that is demanded of it
flag_of_lem : (profile : Profile) (now : Bool) (r : List ℕ) → right profile now r ≡ true → flag_word r ≡ flag now
unfolding right
flag_of_lem profile true r e = eqb-true (flag_word r) 1 (both (eqb (flag_word r) 1) (finites r) e).0
flag_of_lem profile false r e = eqb-true (flag_word r) 0 (both (eqb (flag_word r) 0) (planners profile r) e).0

module _ (profile : Profile) (enter exit : Float) where
  seam : (before : Bool) (rs ss : List (List ℕ))
      → Carried profile enter exit before (rs ++ ss) ↔ (Carried profile enter exit before rs × Carried profile enter exit (after enter exit before (margins_in rs)) ss)
  unfolding after
  seam before [] ss = (λ c. (_, c), λ c. c.1)
  seam before (r ∷ rs) ss = let more = seam (latch enter exit before (margin_in r)) rs ss in (λ c. let d = more.0 c.1 in ((c.0, d.0), d.1), λ c. (c.0.0, more.1 (c.0.1, c.1)))

  last_flag_lem : (before : Bool) (rs : List (List ℕ)) → Carried profile enter exit before rs → last_flag (flag before) rs ≡ flag (after enter exit before (margins_in rs))
  unfolding after last_flag
  last_flag_lem before [] c = refl
  last_flag_lem before (r ∷ rs) c = ap (λ (f : ℕ). last_flag f rs) (flag_of_lem profile (latch enter exit before (margin_in r)) r c.0) ∙ last_flag_lem (latch enter exit before (margin_in r)) rs c.1

  module _ (o : lt enter exit ≡ true) (release : List ℕ) (z : Releasing profile exit release) where
    -- what goes on, as it is checked
    piece : (before : Bool) (ss : List (List ℕ)) → (verdict_of profile enter exit (behind release (flag before) ss) ≡ None) ↔ Carried profile enter exit before ss
    unfolding latch
    piece true ss = (right_carried profile enter exit o ss, carried_right profile enter exit o ss)
    piece false ss =
        let e : latch enter exit true (margin_in release) ≡ false = rw z.above refl in
        let back = carried_right profile enter exit o (release ∷ ss) in
        (λ v. subst (λ (b : Bool). Carried profile enter exit b ss) e (right_carried profile enter exit o (release ∷ ss) v).1, λ c. back (rw e z.planners, rw e c))

    pub seam_right : (rs ss : List (List ℕ))
        → (verdict_of profile enter exit (rs ++ ss) ≡ None) ↔ ((verdict_of profile enter exit rs ≡ None) × (verdict_of profile enter exit (behind release (last_flag 1 rs) ss) ≡ None))
    seam_right rs ss = let next = piece (after enter exit true (margins_in rs)) ss in (
      λ v. let c = (seam true rs ss).0 (right_carried profile enter exit o (rs ++ ss) v) in (carried_right profile enter exit o rs c.0, rw (last_flag_lem true rs c.0) (next.1 c.1)),
      λ v. let c = right_carried profile enter exit o rs v.0 in carried_right profile enter exit o (rs ++ ss) ((seam true rs ss).1 (c, next.0 (rw (← last_flag_lem true rs c) v.1))),
    )

    -- and so of any number of logs, one behind the other
    each : (before : Bool) (ps : List (List (List ℕ))) → Carried profile enter exit before (joined ps) ↔ PiecesRight profile enter exit release (flag before) ps
    unfolding joined
    each before [] = (λ c. tt, λ s. tt)
    each before (p ∷ ps) = let more = each (after enter exit before (margins_in p)) ps in (
      λ c. let d = (seam before p (joined ps)).0 c in ((piece before p).1 d.0, rw (last_flag_lem before p d.0) (more.0 d.1)),
      λ s. let d = (piece before p).0 s.0 in (seam before p (joined ps)).1 (d, more.1 (rw (← last_flag_lem before p d) s.1)),
    )

    pub pieces_right : (ps : List (List (List ℕ))) → (verdict_of profile enter exit (joined ps) ≡ None) ↔ PiecesRight profile enter exit release 1 ps
    pieces_right ps = (λ v. (each true ps).0 (right_carried profile enter exit o (joined ps) v), λ s. carried_right profile enter exit o (joined ps) ((each true ps).1 s))

-- zeros, and the greatest f32 as the margin: such a record for every exit below it
pub releasing : (profile : Profile) (exit : Float) → lt exit (f32 0x7f7f_ffff) ≡ true → Releasing profile exit (bytes_of (replicate 26 0 ++ 0x7f7f_ffff ∷ []))
unfolding right planners passes passes_third passed_on word float is_finite of_bits to_bits
releasing Whole exit e = record { planners = refl; above = e }
releasing LostRotor exit e = record { planners = refl; above = e }
