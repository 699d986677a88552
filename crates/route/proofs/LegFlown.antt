-- The leg flown is the one that request One's sentence describes, and the time on it lies within the leg; over any count. Assumes nothing.
use Rattle.laws.proofs.Prelude.{◌≡◌, refl, sym, ◌∙◌, subst, ◌⊎◌, inl, inr, Bool, true, false, List, ℕ, zero, suc, ◌+◌, ◌-◌, ◌*◌, ◌≤◌, ◌<◌, eq-or-lt_of_le, le_of_suc-le-suc, add-zero, zero-add}
use Rattle.laws.proofs.Prelude.{zero-mul, mul-one, one-mul, arith, T, Float, nan, inf, fin, binary32, fits, lt, le, is_nan, add, sum, of_bits}
use lib.Ieee.{Fits.cond-fits, Bits.is_true}
use Rattle.words.proofs.WordsBack.{float_fits}
use Rattle.relay_math.{specs.F32.{◌⊕◌, ◌⊖◌, 0·0, 1e-3, is_finite, finite_above, unsigned, Within}, proofs.Order.{Number, finite_number, le_trans, le_of_not_lt, le_refl_of, not_lt_of_le, within_finite}}
use Rattle.relay_math.proofs.Sums.{round_own}
use Rattle.relay_traj.{specs.{Governor.Running, Quintic.{Lasts, time_on}}, proofs.{GovernorClock.never_nan, Leg.mended_lasts}}
use Rattle.joint_tick.{specs.{SetUp.segment_of, Tick.sample_time}, proofs.FractionAndSample.finite_time_as_it_is}
use Rattle.image.specs.{Layout.leg_words, Parts.leg_at}
use Rattle.route.specs.{Form.leg_of, Legs.{duration_of, flown_from, leg_flown, sample_of, sample_on, end_of, FirstAbove, PastAll}}
use Rattle.route.proofs.LocalTime.{lasts_plus, sum_unsigned, local_time}

-- a time within the leg is not clamped
pub kept : (x d : Float) → T (is_finite d) → Within 0·0 d x → time_on x d ≡ x
unfolding time_on
kept x d f w =
    let finite = is_true (is_finite x) (within_finite 0·0 d x (unfold is_finite of_bits in tt) f w) in
    rw (finite, not_lt_of_le x 0·0 w.0, not_lt_of_le d x w.1)

-- ---- durations and ends

module _ (b : List ℕ) where
  pub duration_lasts : (i : ℕ) → Lasts (duration_of b i)
  unfolding duration_of
  duration_lasts i = mended_lasts (leg_of b i).t

  shortest_fits : T (fits binary32 1e-3)
  unfolding of_bits fits
  shortest_fits = tt

  pub duration_fits : (i : ℕ) → T (fits binary32 (duration_of b i))
  unfolding duration_of leg_at
  duration_fits i = let t = (leg_of b i).t in cond-fits binary32 (finite_above 1e-3 t) t 1e-3 (float_fits b (leg_words * i + 18)) shortest_fits

  pub end_unsigned : (n : ℕ) → T (unsigned (end_of b n))
  unfolding end_of of_bits
  end_unsigned zero = tt
  end_unsigned (suc n) = sum_unsigned (end_of b n) (duration_of b n) (end_unsigned n) (duration_lasts n)

  unsigned_number : (x : Float) → T (unsigned x) → Number x
  unfolding is_nan
  unsigned_number nan u = absurd u
  unsigned_number (inf s) u = tt
  unsigned_number (fin s m e) u = tt

  from_zero : (d : Float) → T (fits binary32 d) → Lasts d → 0·0 ⊕ d ≡ d
  unfolding is_finite add sum of_bits
  from_zero nan f l = absurd l.0
  from_zero (inf s) f l = absurd l.0
  from_zero (fin true n c) f l = absurd (lasts_plus n c l.1)
  from_zero (fin false n c) f l = simp (zero-mul, zero-add, mul-one, one-mul) (round_own n c f)

  -- the first end is the first duration, bit for bit: nothing is lost by starting at +0.0
  pub first_end : end_of b 1 ≡ duration_of b 0
  unfolding end_of
  first_end = from_zero (duration_of b 0) (duration_fits 0) (duration_lasts 0)

  module _ (time : Float) where
    -- ---- "The leg flown is the first whose end is above the governor time, at the time less the end before it;"

    found : (n i k : ℕ) → i ≤ k → k < i + n → lt time (end_of b (suc k)) ≡ true → ((j : ℕ) → j < k → lt time (end_of b (suc j)) ≡ false)
        → flown_from b time n i (end_of b i) ≡ record { leg = k; at = time ⊖ end_of b k }
    unfolding flown_from end_of
    found zero i k h w a e = absurd (omega arith)
    found (suc n) i k h w a e =
        elim (eq-or-lt_of_le h) [
          | inl p ↦ subst (λ (x : ℕ). flown_from b time (suc n) i (end_of b i) ≡ record { leg = x; at = time ⊖ end_of b x }) p (rw (subst (λ (x : ℕ). lt time (end_of b (suc x)) ≡ true) (sym p) a))
          | inr l ↦ rw (e i l) (found n (suc i) k l (omega arith) a e)
        ]

    pub the_leg_flown : (n k : ℕ) → FirstAbove b n time k → leg_flown b n time ≡ record { leg = k; at = time ⊖ end_of b k }
    unfolding leg_flown end_of
    the_leg_flown n k f = found n 0 k (omega arith) (omega (arith, f.within)) f.above f.earlier

    -- ---- "past all ends it is the last leg at its duration."

    passed : (n i : ℕ) → ((j : ℕ) → j < i + n → lt time (end_of b (suc j)) ≡ false)
        → flown_from b time n i (end_of b i) ≡ record { leg = i + n - 1; at = duration_of b (i + n - 1) }
    unfolding flown_from end_of
    passed zero i e = rw (add-zero i)
    passed (suc n) i e = let p : suc i + n ≡ i + suc n = omega arith in rw (e i (omega arith), ← p) (passed n (suc i) (λ j h. e j (omega (arith, h))))

    pub past_all_ends : (n : ℕ) → PastAll b n time → leg_flown b n time ≡ record { leg = n - 1; at = duration_of b (n - 1) }
    unfolding leg_flown end_of
    past_all_ends n p = passed n 0 (λ j h. p.none j (omega (arith, h))) ∙ rw (zero-add n)

    -- ---- one or the other, always

    pub above_or_past : (n : ℕ) → ((k : ℕ) × FirstAbove b n time k) ⊎ PastAll b n time
    above_or_past zero = inr record { none = λ j h. absurd (omega (arith, h)) }
    above_or_past (suc n) =
        elim (above_or_past n) [
          | inl f ↦ inl (f.0, record { within = omega (arith, f.1.within); above = f.1.above; earlier = f.1.earlier })
          | inr p ↦ go p (lt time (end_of b (suc n))) refl
        ]
      where
        go : PastAll b n time → (t : Bool) → lt time (end_of b (suc n)) ≡ t → ((k : ℕ) × FirstAbove b (suc n) time k) ⊎ PastAll b (suc n) time
        go p true e = inl (n, record { within = omega arith; above = e; earlier = p.none })
        go p false e =
            inr record { none = λ j h. elim (eq-or-lt_of_le (le_of_suc-le-suc h)) [ inl q ↦ subst (λ (x : ℕ). lt time (end_of b (suc x)) ≡ false) (sym q) e | inr l ↦ p.none j l ] }

    -- the leg flown is one of them
    pub one_of_them : (n : ℕ) → 0 < n → (sample_on b n time).leg < n
    unfolding sample_on sample_of
    one_of_them n h = elim (above_or_past n) [ inl f ↦ rw (the_leg_flown n f.0 f.1) f.1.within | inr p ↦ rw (past_all_ends n p) (omega (arith, h)) ]

    -- ---- the time on the leg lies within 0 and the leg's duration

    module _ (r : Running time) where
      end_before : (n k : ℕ) → FirstAbove b n time k → T (le (end_of b k) time)
      unfolding end_of
      end_before n zero f = r.from_zero
      end_before n (suc k) f = le_of_not_lt time (end_of b (suc k)) (never_nan r) (unsigned_number (end_of b (suc k)) (end_unsigned (suc k))) (f.earlier k (omega arith))

      duration_not_below : (i : ℕ) → T (le 0·0 (duration_of b i))
      duration_not_below i = le_trans 0·0 1e-3 (duration_of b i) (unfold le of_bits in tt) (duration_lasts i).1

      pub time_on_the_leg : (n : ℕ) → let f = leg_flown b n time in Within 0·0 (duration_of b f.leg) f.at
      time_on_the_leg n =
          elim (above_or_past n) [
            | inl f ↦ rw (the_leg_flown n f.0 f.1) (in_leg f.0 f.1)
            | inr p ↦ rw (past_all_ends n p) (duration_not_below (n - 1), le_refl_of _ (finite_number _ (duration_lasts (n - 1)).0))
          ]
        where
          in_leg : (k : ℕ) → FirstAbove b n time k → Within 0·0 (duration_of b k) (time ⊖ end_of b k)
          in_leg k f = local_time time (end_of b k) (duration_of b k) r.holds r.from_zero (end_unsigned k) (end_before n k f) (duration_fits k) (duration_lasts k) (unfold end_of in f.above)

      -- so the clamp of `eval` never acts
      pub never_clamped : (n : ℕ) → let f = leg_flown b n time in time_on f.at (duration_of b f.leg) ≡ f.at
      never_clamped n = let f = leg_flown b n time in kept f.at (duration_of b f.leg) (duration_lasts f.leg).0 (time_on_the_leg n)

      -- nor its rule for a time that is no number, and +infinity is never asked for: the leg is sampled at the time on it
      pub sampled_there : (n : ℕ) → let f = leg_flown b n time in sample_time (segment_of (leg_of b f.leg)) f.at ≡ f.at
      sampled_there n =
          let f = leg_flown b n time in
          let w = within_finite 0·0 (duration_of b f.leg) f.at (unfold is_finite of_bits in tt) (duration_lasts f.leg).0 (time_on_the_leg n) in
          finite_time_as_it_is (segment_of (leg_of b f.leg)) f.at (is_true (is_finite f.at) w)
