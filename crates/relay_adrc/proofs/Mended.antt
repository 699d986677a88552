-- What the mended inputs are, for every bit pattern. Assumes nothing.
use Rattle.laws.proofs.Prelude.{◌≡◌, refl, Bool, true, false, cond, ◌&&◌, T, Float, lt, le, of_bits, held}
use Rattle.relay_math.{specs.F32.{0·0, 1e-3, 0·1, 1·0, is_finite, clamp, Within, fabsf}, proofs.Order.{finite_number, clamp_within}}
use Rattle.relay_adrc.specs.Axis.{1e-4, mend_dt, mend_b0, delivered_fraction}

-- x if it is finite, held between lo and hi, else d
clamped : (x lo hi d : Float) → T (le lo hi) → Within lo hi d → Within lo hi (cond (is_finite x) (clamp x lo hi) d)
clamped x lo hi d h w = go (is_finite x) refl
  where
    go : (t : Bool) → is_finite x ≡ t → Within lo hi (cond t (clamp x lo hi) d)
    go true e = clamp_within lo hi h x (finite_number x (held e))
    go false e = w

-- "dt is clamped to 1e-4..0.1; non-finite becomes 1e-3."
pub dt_in_range : (dt : Float) → Within 1e-4 0·1 (mend_dt dt)
unfolding of_bits le
dt_in_range dt = clamped dt 1e-4 0·1 1e-3 tt (tt, tt)

pub bad_dt : (dt : Float) → is_finite dt ≡ false → mend_dt dt ≡ 1e-3
bad_dt dt e = rw e

-- the fraction that a tick uses lies in 0..1; a non-finite report counts as 1
pub fraction_in_range : (frac : Float) → Within 0·0 1·0 (delivered_fraction frac)
unfolding of_bits le
fraction_in_range frac = clamped frac 0·0 1·0 1·0 tt (tt, tt)

pub bad_fraction_is_one : (frac : Float) → is_finite frac ≡ false → delivered_fraction frac ≡ 1·0
bad_fraction_is_one frac e = rw e

-- "b0 of size not above 1e-3, or non-finite, becomes 1." A b0 of exactly 1e-3 is one of them.
pub small_b0_is_one : (b0 : Float) → lt 1e-3 (fabsf b0) ≡ false → mend_b0 b0 ≡ 1·0
small_b0_is_one b0 e = pick (is_finite b0)
  where
    pick : (t : Bool) → cond (t && lt 1e-3 (fabsf b0)) b0 1·0 ≡ 1·0
    pick true = rw e
    pick false = refl

pub bad_b0_is_one : (b0 : Float) → is_finite b0 ≡ false → mend_b0 b0 ≡ 1·0
bad_b0_is_one b0 e = rw e

pub b0_of_1e_3_is_one : mend_b0 1e-3 ≡ 1·0
unfolding fabsf of_bits is_finite lt
b0_of_1e_3_is_one = refl
