-- The governed time, tick by tick and over any run, for all bits. Assumes nothing.
use Rattle.laws.proofs.Prelude.{◌≡◌, refl, sym, ap, ◌∙◌, subst, Bool, true, false, not, cond, List, [], ◌∷◌, ◌++◌, T, pos, Float, nan, inf, fin, binary32, fits, add, le, eq, is_nan, of_bits}
use lib.Ieee.Fits.{add-fits}
use Rattle.relay_math.{specs.F32.{◌⊕◌, ◌⊗◌, 0·0, 1·0, is_finite, finite_above, unsigned}, proofs.Order.{le_trans, le_refl_of, le_right, within_finite, finite_from}}
use Rattle.relay_math.proofs.Sums.{product_not_below, sum_grows, zero_times, zero_adds_nothing, zero_keeps_number}
use Rattle.relay_traj.specs.{declared.governor.RefGovernor.RefGovernor, Governor.{gate, moved_by, advance, Running, GovernorTick, after_ticks}}
use Rattle.relay_traj.proofs.Gate.{gate_in_unit}

-- ---- what a tick adds

zero_good : T (is_finite 0·0) × T (le 0·0 0·0)
unfolding is_finite le of_bits
zero_good = (tt, tt)

moved_good : (dt : Float) → T (is_finite (moved_by dt)) × T (le 0·0 (moved_by dt))
moved_good dt = finite_from 0·0 dt 0·0 zero_good

gate_finite : (g : RefGovernor) (err : Float) → T (is_finite (gate g err))
unfolding is_finite of_bits
gate_finite g err = within_finite 0·0 1·0 (gate g err) tt tt (gate_in_unit g err)

step_not_below : (g : RefGovernor) (err dt : Float) → T (le 0·0 (gate g err ⊗ moved_by dt))
step_not_below g err dt = product_not_below (gate g err) (moved_by dt) (gate_finite g err) (moved_good dt).0 (gate_in_unit g err).0 (moved_good dt).1

-- ---- one tick

pub never_nan : {s : Float} → Running s → T (not (is_nan s))
never_nan {s} r = le_right 0·0 s r.from_zero

-- "A dt not finite and above 0 adds nothing": the Rust adds the gate times +0.0, so the time stays as it is to the bit, but for a -0.0, which may become +0.0
no_dt : (g : RefGovernor) (err dt : Float) → finite_above 0·0 dt ≡ false → (b : Bool) × ((advance g err dt).time ≡ g.s ⊕ fin b 0 (pos 0))
unfolding advance
no_dt g err dt h =
    let z = zero_times (gate g err) (gate_finite g err) in
    (z.0, ap (λ (c : Bool). g.s ⊕ gate g err ⊗ cond c dt 0·0) h ∙ ap (λ (y : Float). g.s ⊕ y) z.1)

pub no_dt_adds_nothing : (g : RefGovernor) (err dt : Float) → finite_above 0·0 dt ≡ false → T (fits binary32 g.s) → T (unsigned g.s) → (advance g err dt).time ≡ g.s
no_dt_adds_nothing g err dt h f u =
    let n = no_dt g err dt h in
    n.1 ∙ zero_adds_nothing g.s n.0 f u

pub no_dt_keeps_number : (g : RefGovernor) (err dt : Float) → finite_above 0·0 dt ≡ false → Running g.s → T (eq g.s (advance g err dt).time)
no_dt_keeps_number g err dt h r =
    let n = no_dt g err dt h in
    subst (λ (t : Float). T (eq g.s t)) (sym n.1) (zero_keeps_number g.s n.0 r.holds r.from_zero)

-- "Its time never decreases between resets and is never NaN; it may reach +infinity."
pub clock_never_back : (g : RefGovernor) (err dt : Float) → Running g.s → T (le g.s (advance g err dt).time) × Running (advance g err dt).time
unfolding advance
clock_never_back g err dt r =
    let a = gate g err ⊗ moved_by dt in
    let up = sum_grows g.s a r.holds r.from_zero (step_not_below g err dt) in
    (up, record { holds = add-fits binary32 g.s a; from_zero = le_trans 0·0 g.s (g.s ⊕ a) r.from_zero up })

-- ---- any number of ticks, with any errors and any dt

pub clock_over_any_run : (g : RefGovernor) (ks : List GovernorTick) → Running g.s → T (le g.s (after_ticks g ks).s) × Running (after_ticks g ks).s
unfolding after_ticks advance
clock_over_any_run g [] r = (le_refl_of g.s (never_nan r), r)
clock_over_any_run g (k ∷ ks) r =
    let one = clock_never_back g k.error k.dt r in let g' = (advance g k.error k.dt).governor in
    let rest = clock_over_any_run g' ks one.1 in
    (le_trans g.s g'.s (after_ticks g' ks).s one.0 rest.0, rest.1)

run_joins : (g : RefGovernor) (ks ls : List GovernorTick) → after_ticks g (ks ++ ls) ≡ after_ticks (after_ticks g ks) ls
unfolding after_ticks
run_joins g [] ls = refl
run_joins g (k ∷ ks) ls = run_joins (advance g k.error k.dt).governor ks ls

-- a later time of a run is no less than an earlier one
pub clock_along_a_run : (g : RefGovernor) (ks ls : List GovernorTick) → Running g.s → T (le (after_ticks g ks).s (after_ticks g (ks ++ ls)).s)
clock_along_a_run g ks ls r = subst (λ (h : RefGovernor). T (le (after_ticks g ks).s h.s)) (sym (run_joins g ks ls)) (clock_over_any_run (after_ticks g ks) ls (clock_over_any_run g ks r).1).0

-- ---- +infinity

kept_infinite : (y : Float) → T (le 0·0 y) → inf false ⊕ y ≡ inf false
unfolding add le of_bits
kept_infinite nan h = absurd h
kept_infinite (inf true) h = absurd h
kept_infinite (inf false) h = refl
kept_infinite (fin s m e) h = refl

pub infinity_stays : (g : RefGovernor) (ks : List GovernorTick) → g.s ≡ inf false → (after_ticks g ks).s ≡ inf false
unfolding after_ticks advance
infinity_stays g [] h = h
infinity_stays g (k ∷ ks) h =
    infinity_stays (advance g k.error k.dt).governor ks (ap (λ (s : Float). s ⊕ gate g k.error ⊗ moved_by k.dt) h ∙ kept_infinite (gate g k.error ⊗ moved_by k.dt)
    (step_not_below g k.error k.dt))

-- ---- where a governor starts

pub starts_at_zero : Running 0·0
unfolding fits of_bits
starts_at_zero = record { holds = tt; from_zero = zero_good.1 }
