-- `clamp_sym`, `CommandFilter` and `CommandFilter3` of document 002. Definitions only.
use Rattle.std.specs.Prelude.{◌||◌, cond, List, [], ◌∷◌, Float}
use Rattle.std.specs.Float.Ieee.{lt, neg, is_nan}
use Rattle.relay_math.specs.F32.{◌⊕◌, ◌⊖◌, ◌⊗◌, 0·0, 1·0, 2·0, finite_or}
use Rattle.relay_math.specs.declared.BodyRate.{BodyRate}
use Rattle.relay_adrc.specs.declared.filter.CommandFilter.{CommandFilter}
use Rattle.relay_adrc.specs.declared.filter.Stepped.{Stepped}
use Rattle.relay_adrc.specs.declared.filter.CommandFilter3.{CommandFilter3}
use Rattle.relay_adrc.specs.declared.filter.Stepped3.{Stepped3}
use Rattle.relay_adrc.specs.Axis.{mend_dt, positive_or}

unfoldable pub clamp_sym : Float → Float → Float
clamp_sym xGiven m =
    let x = finite_or xGiven 0·0 in
    cond (is_nan m || lt m 0·0) 0·0 (cond (lt m x) m (cond (lt x (neg m)) (neg m) x))

abbrev pub filter_new : Float → Float → Float → CommandFilter
filter_new ωn maxMag maxRate =
    record { omega_n = positive_or ωn 1·0; max_mag = maxMag; max_rate = maxRate; y = 0·0; yd = 0·0 }

unfoldable pub filter_step : CommandFilter → Float → Float → Stepped
unfolding clamp_sym
filter_step f uGiven dtGiven =
    let dt = mend_dt dtGiven in
    let u = finite_or uGiven 0·0 in
    let y0 = finite_or f.y 0·0 in
    let yd0 = finite_or f.yd 0·0 in
    let wn = f.omega_n in
    let ydNext = yd0 ⊕ dt ⊗ (wn ⊗ wn ⊗ (u ⊖ y0) ⊖ 2·0 ⊗ wn ⊗ yd0) in
    let yd = clamp_sym ydNext f.max_rate in
    let yNext = y0 ⊕ dt ⊗ yd in
    let y = clamp_sym yNext f.max_mag in
    record {
      filter = record { omega_n = f.omega_n; max_mag = f.max_mag; max_rate = f.max_rate; y = y; yd = yd };
      y = y;
    }

abbrev pub filter_reset : CommandFilter → CommandFilter
filter_reset f = record { omega_n = f.omega_n; max_mag = f.max_mag; max_rate = f.max_rate; y = 0·0; yd = 0·0 }

abbrev pub filter3_new : Float → Float → Float → CommandFilter3
filter3_new ωn maxMag maxRate =
    let f = filter_new ωn maxMag maxRate in
    record { roll = f; pitch = f; yaw = f }

unfoldable pub filter3_step : CommandFilter3 → BodyRate → Float → Stepped3
unfolding filter_step
filter3_step f u dt =
    let roll = filter_step f.roll u.0.0 dt in
    let pitch = filter_step f.pitch u.0.1 dt in
    let yaw = filter_step f.yaw u.0.2 dt in
    record {
      filter = record { roll = roll.filter; pitch = pitch.filter; yaw = yaw.filter };
      y = record { 0 = (roll.y, pitch.y, yaw.y) };
    }

abbrev pub filter3_reset : CommandFilter3 → CommandFilter3
filter3_reset f = record { roll = filter_reset f.roll; pitch = filter_reset f.pitch; yaw = filter_reset f.yaw }

-- What can happen to a filter: a step by any input and dt, or a reset. `after_events` is the filter after a list of these, the first first.
pub data Event : Type 0 where
  Step : Float → Float → Event
  Reset : Event

unfoldable pub after_event : CommandFilter → Event → CommandFilter
unfolding filter_step
after_event f (Step u dt) = (filter_step f u dt).filter
after_event f Reset = filter_reset f

unfoldable pub after_events : CommandFilter → List Event → CommandFilter
unfolding after_event
after_events f [] = f
after_events f (e ∷ es) = after_events (after_event f e) es
