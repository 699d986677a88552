-- The reference governor, as 001 has it. Definitions only.
use Rattle.std.specs.Prelude.{Bool, not, ◌&&◌, ◌||◌, cond, List, [], ◌∷◌, T, Float}
use Rattle.std.specs.Float.{binary32}
use Rattle.std.specs.Float.Ieee.{fits, lt, le}
use Rattle.relay_math.specs.F32.{◌⊕◌, ◌⊖◌, ◌⊗◌, ◌⊘◌, 0·0, 1·0, is_finite, finite_or, above_or}
use Rattle.relay_traj.specs.declared.governor.RefGovernor.{RefGovernor}
use Rattle.relay_traj.specs.declared.governor.Advanced.{Advanced}

-- ---- the gate

-- lo if (0.0..=1.0).contains(&lo), else 0
abbrev pub low_end : Float → Float
low_end lo = cond (le 0·0 lo && le lo 1·0) lo 0·0

unfoldable pub clamp_to : Float → Float → Float
clamp_to x lo =
    let l = low_end lo in
    cond (not (is_finite x) || lt x l) l (cond (lt 1·0 x) 1·0 x)

abbrev pub ramp : Float → Float → Float → Float → Float
ramp err lo hi g =
    let frac = (err ⊖ lo) ⊘ (hi ⊖ lo) in
    cond (le err lo) 1·0 (cond (le hi err) g (1·0 ⊖ frac ⊗ (1·0 ⊖ g)))

-- an error or an end of the band is not finite, or the band has no width
abbrev pub no_band : Float → Float → Float → Bool
no_band err lo hi = not (is_finite err) || not (is_finite lo) || not (is_finite hi) || le hi lo

unfoldable pub gate_factor : Float → Float → Float → Float → Float
unfolding clamp_to
gate_factor err lo hi gMin =
    let g = clamp_to gMin 0·0 in
    cond (no_band err lo hi) g (clamp_to (ramp err lo hi g) g)

-- ---- RefGovernor

abbrev pub governor : Float → Float → Float → RefGovernor
governor lo hi gMin = record { s = 0·0; err_lo = lo; err_hi = hi; g_min = gMin }

unfoldable pub gate : RefGovernor → Float → Float
unfolding gate_factor
gate g err = gate_factor err g.err_lo g.err_hi g.g_min

abbrev pub moved_by : Float → Float
moved_by dt = above_or 0·0 dt 0·0

-- the same governor at another time
abbrev pub at_time : RefGovernor → Float → RefGovernor
at_time g s = record { s = s; err_lo = g.err_lo; err_hi = g.err_hi; g_min = g.g_min }

unfoldable pub advance : RefGovernor → Float → Float → Advanced
unfolding gate
advance g err dt =
    let s = g.s ⊕ gate g err ⊗ moved_by dt in
    record { governor = at_time g s; time = s }

abbrev pub reset : RefGovernor → RefGovernor
reset g = at_time g 0·0

-- ---- what the theorems in proofs/Gate.antt and proofs/GovernorClock.antt speak of

-- g_min put into 0..1, a non-finite one counting as 0
unfoldable pub put_in : Float → Float
put_in g =
    let h = finite_or g 0·0 in
    cond (lt h 0·0) 0·0 (cond (lt 1·0 h) 1·0 h)

-- a time that a governor can have: an f32, and a number not below zero (-0.0 is none below)
pub record Running (s : Float) : Type 0 where
  pub holds : T (fits binary32 s)
  pub from_zero : T (le 0·0 s)

-- ticks one after another, each with a tracking error and a dt
pub record GovernorTick : Type 0 where
  pub error : Float
  pub dt : Float

unfoldable pub after_ticks : RefGovernor → List GovernorTick → RefGovernor
unfolding advance
after_ticks g [] = g
after_ticks g (k ∷ ks) = after_ticks (advance g k.error k.dt).governor ks
