-- Request Ten on bytes: what the call writes and when it is refused. Assumes nothing.
use Rattle.std.specs.Prelude.{Err}
use Rattle.laws.proofs.Prelude.{ℕ, ◌<◌, ◌≤◌, ◌≡◌, refl, sym, ap, ◌∙◌, ◌↔◌, true, false, List, [], ◌∷◌, mod-eq_of_lt, arith, T, lit<, Float, binary32, fits, lt, length}
use Rattle.std.proofs.Common.{Some, None}
use Rattle.words.{specs.Words.{word, bytes_of}, proofs.WordsBack.word_bytes_of}
use Rattle.relay_geo.{specs.{declared.shield.Thresholds.Thresholds, Shield.mend_thresholds}, proofs.SetUp.enter_below_exit}
use Rattle.joint_tick.specs.{declared.profile.Profile.Profile, Profile.{is_profile, profile_of}}
use Rattle.outcome.{specs.{declared.Refusal.TheVariants.{BrokenLog, PassThrough}, Outcomes.{Done, first_of, left, Filled}}, proofs.Tables.never_given}
use Rattle.flight_log.{specs.{Form.{most_records, empty_log, from_end, is_log}, Records.records}, proofs.{LogForm.is_a_log, Reading.records_count, Refused.empty_log_lem}}
use Rattle.audit.specs.{Verdict.{Verdict, verdict_of, verdict_word, Says}, Entry.{verdict_on, check_table, check_call}}
use Rattle.audit.proofs.Said.{verdict_says, empty_right}

-- thresholds as set-up mends them are in order
pub mended : (enter exit : Float) {t : Thresholds} → T (fits binary32 enter) → t ≡ mend_thresholds enter exit → lt t.enter t.exit ≡ true
mended enter exit f e = rw e (enter_below_exit enter exit f)

-- ---- the number tells the verdict: no place of a log has that of "all right"

abbrev pub Placed : Verdict → Type 0
Placed None = Unit
Placed (Some k) = k < 0xffff_ffff

same_number : (v w : Verdict) → Placed v → Placed w → verdict_word v ≡ verdict_word w → v ≡ w
same_number None None p q e = refl
same_number None (Some k) p q e = absurd (omega arith)
same_number (Some k) None p q e = absurd (omega arith)
same_number (Some j) (Some k) p q e = ap (λ (i : ℕ). Some i) e

placed : (profile : Profile) (enter exit : Float) (rs : List (List ℕ)) → length rs ≤ most_records → (v : Verdict) → Says profile enter exit rs v → Placed v
placed profile enter exit rs h None s = tt
placed profile enter exit rs h (Some k) s = omega (arith, s.0)

one_word : (v : Verdict) → Placed v → verdict_word v < 4294967296
one_word None p = lit< tt
one_word (Some k) p = omega arith

module _ (log : List ℕ) (profile : ℕ) (enter exit : Float) (into : List ℕ) (h : length into ≡ 4) (l : is_log log ≡ true) (p : is_profile profile ≡ true) where
  -- a log with a profile gets its verdict
  pub taken : check_call log profile enter exit into ≡ left Done (bytes_of (verdict_word (verdict_on log profile enter exit) ∷ []))
  unfolding check_call
  taken = rw (h, l, p)

  -- what the code does where nothing is refused
  pub finished : {t : Thresholds} {by : Profile} {v : Verdict} {w : ℕ} {later : List ℕ} → t ≡ mend_thresholds enter exit → by ≡ profile_of profile
      → v ≡ verdict_of by t.enter t.exit (records log) → w ≡ verdict_word v → later ≡ bytes_of (w ∷ []) → left Done later ≡ check_call log profile enter exit into
  unfolding verdict_on
  finished e b v w k = rw (k, w, v, b, e) (sym taken)

  abbrev t : Thresholds
  t = mend_thresholds enter exit

  pub few : length (records log) ≤ most_records
  few = rw (records_count log l) (is_a_log log l).few

  -- "Answer yes exactly if all hold, else the first wrong record": the word that is written says so of the log's records
  pub word_says : (v : Verdict) → Placed v → (word (check_call log profile enter exit into).later 0 ≡ verdict_word v) ↔ Says (profile_of profile) t.enter t.exit (records log) v
  unfolding verdict_on
  word_says v q =
      let by = profile_of profile in
      let mine : Verdict = verdict_of by t.enter t.exit (records log) in
      let says = verdict_says by t.enter t.exit (records log) in
      let own : Placed mine = placed by t.enter t.exit (records log) few mine ((says mine).0 refl) in
      let is : word (check_call log profile enter exit into).later 0 ≡ verdict_word mine =
      ap (λ (f : Filled). word f.later 0) taken ∙ word_bytes_of (verdict_word mine ∷ []) 0 ∙ mod-eq_of_lt (one_word mine own) in
      (λ e. (says v).0 (same_number mine v own q (sym is ∙ e)), λ s. is ∙ ap verdict_word ((says v).1 s))

-- "Refusals: 8 as in Two, then 10": a verdict's length that is not 4 comes before both
pub eight_before_ten : (log : List ℕ) (profile : ℕ) (enter exit : Float) (into : List ℕ) → length into ≡ 4 → is_log log ≡ false → check_call log profile enter exit into ≡ left (Err BrokenLog) into
unfolding check_call
eight_before_ten log profile enter exit into h l = rw (h, l)

-- 11 is "at set-up alone" (request Twelve)
pub no_check_gives_eleven : (log : List ℕ) (profile n : ℕ) → ¬ (first_of (check_table log profile n) ≡ Err PassThrough)
no_check_gives_eleven log profile n = never_given PassThrough (check_table log profile n) refl

no_records : records empty_log ≡ []
unfolding records is_log from_end
no_records = refl

-- "An empty log gets yes": its 12 bytes, the trailer 0, 0, 108
pub empty_accepted : (profile : ℕ) (enter exit : Float) (into : List ℕ) → is_profile profile ≡ true → length into ≡ 4
    → check_call empty_log profile enter exit into ≡ left Done (bytes_of (0xffff_ffff ∷ []))
unfolding verdict_on
empty_accepted profile enter exit into p h =
    let t = mend_thresholds enter exit in
    let written : Verdict → Filled = λ v. left Done (bytes_of (verdict_word v ∷ [])) in
    taken empty_log profile enter exit into h empty_log_lem p
    ∙ ap (λ (rs : List (List ℕ)). written (verdict_of (profile_of profile) t.enter t.exit rs)) no_records
    ∙ ap written (empty_right (profile_of profile) t.enter t.exit)
