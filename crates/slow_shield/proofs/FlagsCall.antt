-- Request Nine on bytes: what the call writes, when it is refused, and that both flags occur. Assumes nothing.
use Rattle.std.specs.Prelude.{Err}
use Rattle.laws.proofs.Prelude.{ℕ, ◌*◌, ◌<◌, ◌≤◌, ◌≡◌, refl, sym, ap, ◌∙◌, ◌↔◌, Bool, true, false, List, [], ◌∷◌, map, arith, eq-eqb, le-ltb, T, Float, binary32, fits, lt, mul, of_bits, length, get_or}
use Rattle.laws.proofs.Prelude.{both}
use lib.ListN.{get_or-map}
use Rattle.relay_math.specs.F32.{f32, 0·0, is_finite}
use Rattle.words.specs.Words.{word, float, flag, bytes_of}
use Rattle.latch.specs.Latch.{FliesAt}
use Rattle.relay_geo.{specs.{declared.{set.RecoverableSet.RecoverableSet, shield.Thresholds.Thresholds}, Shield.{mend_thresholds, new_shield}}, proofs.SetUp.{enter_finite_positive, enter_below_exit}}
use Rattle.outcome.{specs.{declared.Refusal.TheVariants.PassThrough, Outcomes.{Done, first_of, left}}, proofs.Tables.never_given}
use Rattle.slow_shield.specs.{Back.{look_back, flags_to, slow_flags}, Entry.{most_margins, margins_from, margins_in, flag_bytes, flags_table, flags_call}}
use Rattle.slow_shield.specs.Stepping.{StepGiven, margins_given, stepped_flags}
use Rattle.slow_shield.proofs.{Slow.{slow_flies_at, slow_is_stepping}, Loops.margins_length}

-- thresholds as set-up mends them are what looking back asks for
pub mended : (enter exit : Float) {t : Thresholds} → T (fits binary32 enter) → t ≡ mend_thresholds enter exit → (is_finite t.enter ≡ true) × (lt t.enter t.exit ≡ true)
mended enter exit f e = rw e ((both (is_finite (mend_thresholds enter exit).enter) (lt 0·0 (mend_thresholds enter exit).enter) (enter_finite_positive enter exit)).0, enter_below_exit enter exit f)

module _ (enter exit : Float) (margins flags : List ℕ) (h : length margins ≡ 4 * length flags) (l : length flags ≤ most_margins) where
  -- a list of up to 65,535 margins, with as many flags, is taken
  pub taken : flags_call margins enter exit flags ≡ left Done (flag_bytes enter exit margins)
  unfolding flags_call
  taken = rw (le-ltb most_margins (length flags) l, eq-eqb (length margins) (4 * length flags) h)

  -- what the code does where nothing is refused
  pub finished : {t : Thresholds} {later : List ℕ} → t ≡ mend_thresholds enter exit → later ≡ map flag (slow_flags t.enter t.exit (margins_in margins)) → left Done later
      ≡ flags_call margins enter exit flags
  unfolding flag_bytes
  finished e w = rw (w, e) (sym taken)

  -- "Prove its flags equal to the stepping shield's on every list up to 65,535 long": what is written are the flags of a fresh shield, whatever its set and
  -- the commands, that is stepped by these margins
  pub writes_stepping_flags : (set : RecoverableSet) → T (fits binary32 enter) → (gs : List StepGiven) → margins_given gs ≡ margins_in margins
      → flags_call margins enter exit flags ≡ left Done (map flag (stepped_flags (new_shield set enter exit) gs))
  unfolding flag_bytes
  writes_stepping_flags set f gs e = taken ∙ ap (λ (bs : List Bool). left Done (map flag bs))
      (ap (slow_flags (mend_thresholds enter exit).enter (mend_thresholds enter exit).exit) (sym e) ∙ slow_is_stepping set enter exit f gs)

  -- the user's rule at every place: the byte there is 0 exactly if the planner is to fly
  pub byte_flies_at : (k : ℕ) → k < length flags → (get_or (flags_call margins enter exit flags).later k 1 ≡ 0) ↔ FliesAt (mend_thresholds enter exit).enter
      (mend_thresholds enter exit).exit (margins_in margins) k
  unfolding flag_bytes
  byte_flies_at k i =
      let t = mend_thresholds enter exit in
      let rule = slow_flies_at t.enter t.exit (margins_in margins) k (rw (margins_length margins (length flags) h) i) in
      rw (taken, get_or-map flag (slow_flags t.enter t.exit (margins_in margins)) k true) ((λ e. rule.0 (planner _ e)), (λ r. ap flag (rule.1 r)))
    where
      planner : (b : Bool) → flag b ≡ 0 → b ≡ false
      planner true e = absurd (omega arith)
      planner false e = refl

-- Both flags occur: 1.5, 0.75 and 0.25 with thresholds 0.5 and 1. The planner is released, flies on within the band, and is relieved.
pub both_occur : flags_call (bytes_of (0x3fc0_0000 ∷ 0x3f40_0000 ∷ 0x3e80_0000 ∷ [])) (f32 0x3f00_0000) (f32 0x3f80_0000) (7 ∷ 7 ∷ 7 ∷ []) ≡ left Done (0 ∷ 0 ∷ 1 ∷ [])
unfolding flags_call flag_bytes flags_to look_back margins_from float word mend_thresholds is_finite lt mul of_bits
both_occur = refl

-- 11 is "at set-up alone" (request Twelve)
pub no_flags_give_eleven : (marginsLen flagsLen : ℕ) → ¬ (first_of (flags_table marginsLen flagsLen) ≡ Err PassThrough)
no_flags_give_eleven marginsLen flagsLen = never_given PassThrough (flags_table marginsLen flagsLen) refl
