-- A filter whose b are all zero, at rest: it lets nothing through, for ever. `lowpass` makes it of a cut-off that is too low for its cosine to differ from 1. Assumes nothing.
use Rattle.laws.proofs.Prelude.{List, [], ◌∷◌, T, Float, nan, inf, fin, eq, lt, le, neg, add, sub, mul, div, of_bits}
use Rattle.relay_math.{specs.{F32.{◌⊖◌, ◌⊗◌, f32, 0·0, is_finite, finite_or}, Steps.{sinf, cosf, sincos}}, proofs.{Zeros.{IsZero, none, equal, times, by, plus, minus}, FiniteOr.or_zero_finite}}
use Rattle.relay_adrc.specs.{declared.biquad.Biquad.Biquad, Biquad.{lowpass_at, lowpass, biquad_filter}}

-- zeros of either sign; what came in before was finite, as `filter` keeps it
pub record Shut (f : Biquad) : Type 0 where
  pub b : IsZero f.b0 × IsZero f.b1 × IsZero f.b2
  pub x : T (is_finite f.x1) × T (is_finite f.x2)
  pub y : IsZero f.y1 × IsZero f.y2

-- a zero, or no number: a feedback coefficient that is not finite makes a NaN of the output before
data Nothing : Float → Type 0 where
  Zero : {x : Float} → IsZero x → Nothing x
  NaN : Nothing nan

less : {x : Float} (a : Float) {y : Float} → Nothing x → IsZero y → Nothing (x ⊖ a ⊗ y)
unfolding sub add neg mul is_finite
less a NaN z = NaN
less nan (Zero (none s e)) (none t d) = NaN
less (inf r) (Zero (none s e)) (none t d) = NaN
less (fin r m k) (Zero p) z = Zero (minus p (times (fin r m k) tt z))

kept_zero : {x : Float} → Nothing x → IsZero (finite_or x 0·0)
unfolding is_finite of_bits
kept_zero (Zero (none s e)) = none s e
kept_zero NaN = none _ _

pub shut_gives_zero : (f : Biquad) (x : Float) → Shut f → T (eq (biquad_filter f x).y 0·0) × Shut (biquad_filter f x).biquad
unfolding biquad_filter
shut_gives_zero f x s =
    let in_b = plus (plus (by _ s.b.0 (or_zero_finite x)) (by _ s.b.1 s.x.0)) (by _ s.b.2 s.x.1) in
    let y = kept_zero (less f.a2 (less f.a1 (Zero in_b) s.y.0) s.y.1) in
    (equal y, record { b = s.b; x = (or_zero_finite x, s.x.0); y = (y, s.y.0) })

-- after any inputs, the next one's answer is a zero too
abbrev pub filtered_by : Biquad → List Float → Biquad
filtered_by f [] = f
filtered_by f (x ∷ xs) = filtered_by (biquad_filter f x).biquad xs

pub shut_for_ever : (f : Biquad) (xs : List Float) (x : Float) → Shut f → T (eq (biquad_filter (filtered_by f xs) x).y 0·0)
shut_for_ever f [] x s = (shut_gives_zero f x s).0
shut_for_ever f (z ∷ xs) x s = shut_for_ever (biquad_filter f z).biquad xs x (shut_gives_zero f z s).1

-- such a filter is made: 0.03 Hz at 1000 Hz (fc 3cf5c28f, fs 447a0000)
pub too_low_is_shut : Shut (lowpass (f32 0x3cf5_c28f) (f32 0x447a_0000))
unfolding lowpass lowpass_at sinf cosf sincos of_bits neg add sub mul div lt le is_finite
too_low_is_shut = record { b = (none _ _, none _ _, none _ _); x = (tt, tt); y = (none _ _, none _ _) }
