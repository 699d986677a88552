-- The biquad. Assumes nothing.
use Rattle.laws.proofs.Prelude.{◌≡◌, refl, sym, ap, ◌∙◌, Bool, true, false, cond, not, ◌&&◌, ◌||◌, T, ◌*◌, Float, nan, inf, fin, lt, le, neg, add, sub, mul, div, up, down, is_nan, of_bits, no}
use Rattle.relay_math.{specs.{F32.{◌⊗◌, ◌⊘◌, f32, 0·0, 0·5, 1·0, 2·0, is_finite}, Steps.{sinf, cosf, sincos}}, proofs.{Signs.{not_nan, of_rounded}, Order.{Number, le_is_not_above}}}
use Rattle.relay_math.proofs.FiniteOr.{or_zero_finite}
use Rattle.relay_adrc.specs.{declared.biquad.Biquad.Biquad, Biquad.{PI, passes_through, passthrough, lowpass_at, lowpass, biquad_filter}}

-- the output is finite for all bits of everything
pub output_finite : (f : Biquad) (x : Float) → T (is_finite (biquad_filter f x).y)
unfolding biquad_filter
output_finite f x = or_zero_finite _

-- `lowpass` is the pass-through exactly where `passes_through` says so: elsewhere b0 and b2 are the same number, and a pass-through has 1 and 0.
pub passes : (fc fs : Float) → passes_through fc fs ≡ true → lowpass fc fs ≡ passthrough
unfolding lowpass
passes fc fs e = rw e

pub filters : (fc fs : Float) → passes_through fc fs ≡ false → lowpass fc fs ≡ lowpass_at (2·0 ⊗ PI ⊗ fc ⊘ fs)
unfolding lowpass
filters fc fs e = rw e

pub only_then : (fc fs : Float) → lowpass fc fs ≡ passthrough → passes_through fc fs ≡ true
unfolding lowpass lowpass_at lt of_bits
only_then fc fs q = by (passes_through fc fs) q
  where
    by : (t : Bool) → cond t passthrough (lowpass_at (2·0 ⊗ PI ⊗ fc ⊘ fs)) ≡ passthrough → t ≡ true
    by true q = refl
    by false q = no (ap (lt 0·0) (sym (ap (λ (b : Biquad). b.b2) q) ∙ ap (λ (b : Biquad). b.b0) q))

-- what is rounded is no NaN, so half of a number above zero is none
half : (fs : Float) → lt 0·0 fs ≡ true → Number (0·5 ⊗ fs)
unfolding lt mul is_nan of_bits
half nan p = no p
half (inf true) p = no p
half (inf false) p = tt
half (fin s m e) p = of_rounded Number (not (not s)) (λ n d. tt) tt (1 * 1 * (m * up e)) (2 * down e)

-- "passes through unless fc > 0, fs > 0 and fc < 0.5 fs": where the first two hold no NaN is left, so that `fc >= 0.5 fs` is the rest's denial
pub passes_unless : (fc fs : Float) → passes_through fc fs ≡ not (lt 0·0 fc && lt 0·0 fs && lt fc (0·5 ⊗ fs))
passes_unless fc fs = by (lt 0·0 fc) (lt 0·0 fs) refl refl
  where
    by : (a b : Bool) → lt 0·0 fc ≡ a → lt 0·0 fs ≡ b → (not a || not b || le (0·5 ⊗ fs) fc) ≡ not (a && b && lt fc (0·5 ⊗ fs))
    by true true p q = le_is_not_above fc (0·5 ⊗ fs) (unfold of_bits in not_nan fc p) (half fs q)
    by true false p q = refl
    by false true p q = refl
    by false false p q = refl

-- "With fc = 1e38 and fs = 3e38 the angle overflows: b 0.5, 1, 0.5, a1 negative zero, a2 1."
pub overflow :
    lowpass (f32 0x7e96_7699) (f32 0x7f61_b1e6) ≡
    record { b0 = 0·5; b1 = 1·0; b2 = 0·5; a1 = f32 0x8000_0000; a2 = 1·0; x1 = 0·0; x2 = 0·0; y1 = 0·0; y2 = 0·0 }
unfolding lowpass lowpass_at sinf cosf sincos of_bits neg add sub mul div lt le
overflow = refl
