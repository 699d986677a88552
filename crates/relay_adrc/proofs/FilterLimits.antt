-- `clamp_sym`, and the command filter within its limits. Assumes nothing.
use Rattle.laws.proofs.Prelude.{◌≡◌, refl, sym, subst, ◌∙◌, ◌+◌, ◌*◌, arith, Bool, true, false, cond, ◌||◌, List, [], ◌∷◌, T, Float, nan, inf, fin, up, down, lt, le, neg, is_nan, of_bits, le-ltb}
use lib.Ieee.Bits.{is_false}
use Rattle.relay_math.{specs.F32.{0·0, is_finite, finite_or, Within}, proofs.Order.{Number, finite_number, le_of_not_lt, not_lt_of_le, le_trans, low_within, high_within, between}}
use Rattle.relay_math.proofs.FiniteOr.{or_zero_finite}
use Rattle.relay_adrc.specs.{declared.filter.CommandFilter.CommandFilter, Filter.{clamp_sym, filter_new, filter_step, Event, Step, Reset, after_event, after_events}}

-- zero is below minus m where m is below zero
zero_above : (m : Float) → lt 0·0 (neg m) ≡ lt m 0·0
unfolding lt neg of_bits
zero_above nan = refl
zero_above (inf true) = refl
zero_above (inf false) = refl
zero_above (fin true m e) =
    let y : 0 * down e ≡ 0 = omega arith in
    let z : m * up e * 1 + 0 ≡ m * up e * 1 = omega arith in
    rw (y, z)
zero_above (fin false m e) = sym (le-ltb (m * up e * 1) (0 * down e) (omega arith))

-- "a limit of +infinity passes"
pub infinite_limit_passes : (x : Float) → T (is_finite x) → clamp_sym x (inf false) ≡ x
unfolding clamp_sym is_finite lt neg is_nan of_bits
infinite_limit_passes nan p = absurd p
infinite_limit_passes (inf s) p = absurd p
infinite_limit_passes (fin s m e) p = refl

-- "NaN or below zero gives 0"
pub bad_limit_gives_zero : (x m : Float) → (is_nan m || lt m 0·0) ≡ true → clamp_sym x m ≡ 0·0
unfolding clamp_sym
bad_limit_gives_zero x m e = rw e

-- a number that is not finite gives 0 under any limit
pub bad_number_gives_zero : (x m : Float) → is_finite x ≡ false → clamp_sym x m ≡ 0·0
unfolding clamp_sym
bad_number_gives_zero x m e = rw e (by (is_nan m) (lt m 0·0) refl)
  where
    by : (n b : Bool) → lt m 0·0 ≡ b → cond (n || b) 0·0 (cond b m (cond (lt 0·0 (neg m)) (neg m) 0·0)) ≡ 0·0
    by true b q = refl
    by false true q = refl
    by false false q = rw (zero_above m, q)

neg_finite : (m : Float) → T (is_finite m) → T (is_finite (neg m))
unfolding is_finite neg
neg_finite nan p = absurd p
neg_finite (inf s) p = absurd p
neg_finite (fin s m e) p = tt

-- a limit that is finite and at or above zero
pub record Limit (m : Float) : Type 0 where
  pub finite : T (is_finite m)
  pub no_less : T (le 0·0 m)

-- zero lies between such a limit and its negative
zero_within : (m : Float) → Limit m → Within (neg m) m 0·0
unfolding is_nan of_bits
zero_within m l = (le_of_not_lt 0·0 (neg m) tt (finite_number (neg m) (neg_finite m l.finite)) (zero_above m ∙ not_lt_of_le m 0·0 l.no_less), l.no_less)

-- "For a finite limit at or above zero the answer lies between its negative and itself."
pub clamped_within : (x m : Float) → Limit m → Within (neg m) m (clamp_sym x m)
unfolding clamp_sym
clamped_within x m l = rw (is_false (is_nan m) (finite_number m l.finite), not_lt_of_le m 0·0 l.no_less) (at (finite_or x 0·0) (finite_number (finite_or x 0·0) (or_zero_finite x)))
  where
    apart : T (le (neg m) m)
    apart = le_trans (neg m) 0·0 m (zero_within m l).0 l.no_less

    at : (y : Float) → Number y → Within (neg m) m (cond (lt m y) m (cond (lt y (neg m)) (neg m) y))
    at y n = go (lt m y) (lt y (neg m)) refl refl
      where
        go : (t u : Bool) → lt m y ≡ t → lt y (neg m) ≡ u → Within (neg m) m (cond t m (cond u (neg m) y))
        go true u p q = high_within (neg m) m apart
        go false true p q = low_within (neg m) m apart
        go false false p q = between (neg m) m apart y n q p

-- value and rate of a filter are within its limits
pub record Held (f : CommandFilter) : Type 0 where
  pub value : Within (neg f.max_mag) f.max_mag f.y
  pub rate : Within (neg f.max_rate) f.max_rate f.yd

-- ---- each half by its own limit alone, whatever the other limit, the state, the inputs and the dts are: the filter's arithmetic is not looked at

module _ (limit number : CommandFilter → Float) (kept : (f : CommandFilter) (e : Event) → limit (after_event f e) ≡ limit f)
    (within : (f : CommandFilter) (e : Event) → Limit (limit f) → Within (neg (limit f)) (limit f) (number (after_event f e))) where
  limit_kept : (f : CommandFilter) (es : List Event) → limit (after_events f es) ≡ limit f
  unfolding after_events
  limit_kept f [] = refl
  limit_kept f (e ∷ es) = limit_kept (after_event f e) es ∙ kept f e

  half_held : (f : CommandFilter) (es : List Event) → Limit (limit f) → Within (neg (limit f)) (limit f) (number f) → Within (neg (limit f)) (limit f) (number (after_events f es))
  unfolding after_events
  half_held f [] l h = h
  half_held f (e ∷ es) l h =
      subst (λ (m : Float). Limit m → Within (neg m) m (number (after_event f e)) → Within (neg m) m (number (after_events (after_event f e) es))) (kept f e)
      (half_held (after_event f e) es) l (within f e l)

mag_after : (f : CommandFilter) (e : Event) → (after_event f e).max_mag ≡ f.max_mag
unfolding after_event filter_step
mag_after f (Step u dt) = refl
mag_after f Reset = refl

rate_after : (f : CommandFilter) (e : Event) → (after_event f e).max_rate ≡ f.max_rate
unfolding after_event filter_step
rate_after f (Step u dt) = refl
rate_after f Reset = refl

pub value_within : (f : CommandFilter) (e : Event) → Limit f.max_mag → Within (neg f.max_mag) f.max_mag (after_event f e).y
unfolding after_event filter_step
value_within f (Step u dt) l = clamped_within _ _ l
value_within f Reset l = zero_within _ l

rate_within : (f : CommandFilter) (e : Event) → Limit f.max_rate → Within (neg f.max_rate) f.max_rate (after_event f e).yd
unfolding after_event filter_step
rate_within f (Step u dt) l = clamped_within _ _ l
rate_within f Reset l = zero_within _ l

-- neither steps nor resets change a limit
pub limits_kept : (f : CommandFilter) (es : List Event) → ((after_events f es).max_mag ≡ f.max_mag) × ((after_events f es).max_rate ≡ f.max_rate)
limits_kept f es = (limit_kept (λ f. f.max_mag) (λ f. f.y) mag_after value_within f es, limit_kept (λ f. f.max_rate) (λ f. f.yd) rate_after rate_within f es)

-- "each value stays within its limit", for a rate limit that may be any f32; and each rate, whatever the other limit
pub value_held : (f : CommandFilter) (es : List Event) → Limit f.max_mag → Within (neg f.max_mag) f.max_mag f.y → Within (neg f.max_mag) f.max_mag (after_events f es).y
value_held = half_held (λ f. f.max_mag) (λ f. f.y) mag_after value_within

pub rate_held : (f : CommandFilter) (es : List Event) → Limit f.max_rate → Within (neg f.max_rate) f.max_rate f.yd → Within (neg f.max_rate) f.max_rate
    (after_events f es).yd
rate_held = half_held (λ f. f.max_rate) (λ f. f.yd) rate_after rate_within

-- a fresh filter has both numbers 0
pub fresh_within : (ωn maxMag maxRate : Float) (es : List Event) → let f = after_events (filter_new ωn maxMag maxRate) es in
    (Limit maxMag → Within (neg maxMag) maxMag f.y) × (Limit maxRate → Within (neg maxRate) maxRate f.yd)
fresh_within ωn maxMag maxRate es =
    let f = filter_new ωn maxMag maxRate in
    (λ m. value_held f es m (zero_within maxMag m), λ r. rate_held f es r (zero_within maxRate r))

pub record Limited (f : CommandFilter) : Type 0 where
  pub mag : Limit f.max_mag
  pub rate : Limit f.max_rate

-- "For finite magnitude and rate limits at or above zero, each value and each rate stays within its limit after any sequence of stick bits, dt bits and resets."
pub run_held : (f : CommandFilter) (es : List Event) → Limited f → Held f → Held (after_events f es)
run_held f es l h =
    let k = limits_kept f es in
    record {
      value = subst (λ (m : Float). Within (neg m) m (after_events f es).y) (sym k.0) (value_held f es l.mag h.value);
      rate = subst (λ (m : Float). Within (neg m) m (after_events f es).yd) (sym k.1) (rate_held f es l.rate h.rate);
    }

pub fresh_held : (ωn maxMag maxRate : Float) (es : List Event) → Limit maxMag → Limit maxRate → Held (after_events (filter_new ωn maxMag maxRate) es)
fresh_held ωn maxMag maxRate es m r =
    run_held (filter_new ωn maxMag maxRate) es record { mag = m; rate = r } record { value = zero_within maxMag m; rate = zero_within maxRate r }
