-- The gate, for all bits. Assumes nothing.
use Rattle.laws.proofs.Prelude.{◌≡◌, refl, subst, Bool, true, false, not, ◌&&◌, ◌||◌, cond, T, Float, lt, le, is_nan, of_bits, held}
use lib.Ieee.Bits.{is_true}
use Rattle.relay_math.{specs.F32.{0·0, 1·0, is_finite, Within}, proofs.Order.{le_trans, le_left, finite_number, low_within, high_within, between}}
use Rattle.relay_traj.specs.{declared.governor.RefGovernor.RefGovernor, Governor.{low_end, clamp_to, ramp, no_band, gate_factor, gate, put_in}}

-- ---- `clamp_to`

zero_to_one : T (le 0·0 1·0)
unfolding le of_bits
zero_to_one = tt

low_end_in : (lo : Float) → Within 0·0 1·0 (low_end lo)
low_end_in lo = go (le 0·0 lo) (le lo 1·0) refl refl
  where
    go : (a b : Bool) → le 0·0 lo ≡ a → le lo 1·0 ≡ b → Within 0·0 1·0 (cond (a && b) lo 0·0)
    go true true p q = (held p, held q)
    go true false p q = low_within 0·0 1·0 zero_to_one
    go false b p q = low_within 0·0 1·0 zero_to_one

pub clamp_to_within : (x lo : Float) → Within (low_end lo) 1·0 (clamp_to x lo)
unfolding clamp_to
clamp_to_within x lo = at (low_end lo) (low_end_in lo).1
  where
    at : (l : Float) → T (le l 1·0) → Within l 1·0 (cond (not (is_finite x) || lt x l) l (cond (lt 1·0 x) 1·0 x))
    at l h = go (is_finite x) (lt x l) (lt 1·0 x) refl refl refl
      where
        go : (f a b : Bool) → is_finite x ≡ f → lt x l ≡ a → lt 1·0 x ≡ b → Within l 1·0 (cond (not f || a) l (cond b 1·0 x))
        go false a b p q r = low_within l 1·0 h
        go true true b p q r = low_within l 1·0 h
        go true false true p q r = high_within l 1·0 h
        go true false false p q r = between l 1·0 h x (finite_number x (held p)) q r

-- ---- the gate

pub floor_is : (g : Float) → clamp_to g 0·0 ≡ put_in g
unfolding clamp_to put_in le lt of_bits
floor_is g = by_cases (is_finite g)
  where
    by_cases : (b : Bool) → cond (not b || lt g 0·0) 0·0 (cond (lt 1·0 g) 1·0 g) ≡ (let h = cond b g 0·0 in cond (lt h 0·0) 0·0 (cond (lt 1·0 h) 1·0 h))
    by_cases true = refl
    by_cases false = refl

low_end_kept : (lo : Float) → Within 0·0 1·0 lo → low_end lo ≡ lo
low_end_kept lo h = rw (is_true (le 0·0 lo) h.0, is_true (le lo 1·0) h.1)

floor_in : (gMin : Float) → Within 0·0 1·0 (clamp_to gMin 0·0)
floor_in gMin = subst (λ (l : Float). Within l 1·0 (clamp_to gMin 0·0)) (low_end_kept 0·0 (low_within 0·0 1·0 zero_to_one)) (clamp_to_within gMin 0·0)

-- "for all bits the gate is at least g_min put into 0..1 (a non-finite one, +infinity too, counts as 0) and at most 1"
pub gate_bounds : (err lo hi gMin : Float) → Within (put_in gMin) 1·0 (gate_factor err lo hi gMin)
unfolding gate_factor
gate_bounds err lo hi gMin = subst (λ (l : Float). Within l 1·0 (gate_factor err lo hi gMin)) (floor_is gMin) (at (clamp_to gMin 0·0) (floor_in gMin) (no_band err lo hi))
  where
    at : (g : Float) → Within 0·0 1·0 g → (b : Bool) → Within g 1·0 (cond b g (clamp_to (ramp err lo hi g) g))
    at g h true = low_within g 1·0 h.1
    at g h false = subst (λ (l : Float). Within l 1·0 (clamp_to (ramp err lo hi g) g)) (low_end_kept g h) (clamp_to_within (ramp err lo hi g) g)

-- what is put into 0..1 lies there
pub put_in_unit : (g : Float) → Within 0·0 1·0 (put_in g)
put_in_unit g = subst (Within 0·0 1·0) (floor_is g) (floor_in g)

-- so the gate lies from 0 to 1, and is never a NaN
pub gate_in_unit : (g : RefGovernor) (err : Float) → Within 0·0 1·0 (gate g err)
unfolding gate
gate_in_unit g err =
    let b = gate_bounds err g.err_lo g.err_hi g.g_min in
    (le_trans 0·0 (put_in g.g_min) (gate g err) (put_in_unit g.g_min).0 b.0, b.1)

pub gate_never_nan : (g : RefGovernor) (err : Float) → T (not (is_nan (gate g err)))
gate_never_nan g err = le_left (gate g err) 1·0 (gate_in_unit g err).1
