-- A leg's duration, times that are not finite, and the peak, for all bits. Assumes nothing.
use Rattle.laws.proofs.Prelude.{◌≡◌, refl, sym, ap, ◌∙◌, subst, Bool, true, false, not, cond, T, Float, lt, le, is_nan, of_bits, held}
use Rattle.relay_math.{specs.{F32.{0·0, 1e-3, ∞, is_finite, clamp}, declared.Vec3.Vec3}, proofs.Order.{finite_number, le_trans, not_lt_of_le, finite_from}}
use Rattle.relay_traj.specs.{declared.quintic.Quintic.Quintic, Quintic.{mended_duration, Lasts, mend_ends, of_mended, quintic, time_on, sample_at, eval, peak_abs_jerk}, Segment.{segment, duration}}

-- ---- the duration

shortest_lasts : Lasts 1e-3
unfolding is_finite le of_bits
shortest_lasts = (tt, tt)

-- "a duration that is not finite and above 1e-3 becomes 1e-3": so it is finite, and 1e-3 at least
pub mended_lasts : (t : Float) → Lasts (mended_duration t)
mended_lasts t = finite_from 1e-3 t 1e-3 shortest_lasts

-- the duration of a new quintic is the mended one
pub new_lasts_as_mended : (p0 v0 a0 pf vf af t : Float) → (quintic p0 v0 a0 pf vf af t).t_end ≡ mended_duration t
unfolding quintic mend_ends of_mended
new_lasts_as_mended p0 v0 a0 pf vf af t = refl

pub new_lasts : (p0 v0 a0 pf vf af t : Float) → Lasts (quintic p0 v0 a0 pf vf af t).t_end
new_lasts p0 v0 a0 pf vf af t = subst Lasts (sym (new_lasts_as_mended p0 v0 a0 pf vf af t)) (mended_lasts t)

-- of a segment, on each axis
pub segment_lasts_as_mended : (p0 v0 a0 pf vf af : Vec3) (t : Float) → duration (segment p0 v0 a0 pf vf af t) ≡ mended_duration t
unfolding segment
segment_lasts_as_mended p0 v0 a0 pf vf af t = new_lasts_as_mended p0.0 v0.0 a0.0 pf.0 vf.0 af.0 t

pub segment_lasts : (p0 v0 a0 pf vf af : Vec3) (t : Float) → let g = segment p0 v0 a0 pf vf af t in Lasts g.0.t_end × Lasts g.1.t_end × Lasts g.2.t_end
unfolding segment
segment_lasts p0 v0 a0 pf vf af t =
    (new_lasts p0.0 v0.0 a0.0 pf.0 vf.0 af.0 t, new_lasts p0.1 v0.1 a0.1 pf.1 vf.1 af.1 t, new_lasts p0.2 v0.2 a0.2 pf.2 vf.2 af.2 t)

-- ---- a time that is not finite

zero_or_later : T (le 0·0 1e-3)
unfolding le of_bits
zero_or_later = tt

kept_zero : (end : Float) → lt end 0·0 ≡ false → time_on 0·0 end ≡ 0·0
unfolding time_on is_finite lt of_bits
kept_zero end e = ap (λ (b : Bool). cond b end 0·0) e

pub nonfinite_at_start : (q : Quintic) (t : Float) → is_finite t ≡ false → eval q t ≡ sample_at q 0·0
unfolding eval time_on
nonfinite_at_start q t h = ap (λ (b : Bool). sample_at q (cond b (clamp t 0·0 q.t_end) 0·0)) h

-- "`eval` of a non-finite time is `eval` of 0": of every quintic from `new`, and of any other that lasts. One that ends below zero has its end at 0 and its start at a NaN.
pub eval_of_nonfinite : (q : Quintic) (t : Float) → is_finite t ≡ false → Lasts q.t_end → eval q t ≡ eval q 0·0
unfolding eval
eval_of_nonfinite q t h l =
    let end = q.t_end in
    nonfinite_at_start q t h ∙ sym (ap (sample_at q) (kept_zero end (not_lt_of_le end 0·0 (le_trans 0·0 1e-3 end zero_or_later l.1))))

pub new_eval_of_nonfinite : (p0 v0 a0 pf vf af t u : Float) → is_finite u ≡ false → eval (quintic p0 v0 a0 pf vf af t) u ≡ eval (quintic p0 v0 a0 pf vf af t) 0·0
new_eval_of_nonfinite p0 v0 a0 pf vf af t u h = eval_of_nonfinite (quintic p0 v0 a0 pf vf af t) u h (new_lasts p0 v0 a0 pf vf af t)

-- ---- the peak

-- whatever the coefficients are
pub peak_never_nan : (q : Quintic) → T (not (is_nan (peak_abs_jerk q)))
unfolding peak_abs_jerk is_nan of_bits
peak_never_nan q = go _ _ refl
  where
    go : (bound : Float) (b : Bool) → is_finite bound ≡ b → T (not (is_nan (cond b bound ∞)))
    go bound true e = finite_number bound (held e)
    go bound false e = tt
