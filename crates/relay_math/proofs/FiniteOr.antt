-- Laws for callers: what `finite_or` gives, and that sine and cosine are finite for every f32. Assumes nothing.
use Rattle.laws.proofs.Prelude.{inf, nan, ◌≡◌, refl, sym, subst, Bool, true, false, not, cond, T, Float, fin, binary32, fits, of_bits, held}
use lib.Ieee.Bits.{is_true}
use Rattle.relay_math.specs.{Exact.{Value, Near, in_range}, F32.{0·0, is_finite, finite_or}, Steps.{sinf, cosf}}
use Rattle.relay_math.proofs.AngleBound.{sincos_far, sinf_rule, cosf_rule}

pub finite_or_keeps : (x d : Float) → T (is_finite x) → finite_or x d ≡ x
finite_or_keeps x d h = rw (is_true (is_finite x) h)

pub finite_or_finite : (x d : Float) → T (is_finite d) → T (is_finite (finite_or x d))
finite_or_finite x d h = go (is_finite x) refl
  where
    go : (t : Bool) → is_finite x ≡ t → T (is_finite (cond t x d))
    go true e = held e
    go false e = h

pub or_zero_finite : (x : Float) → T (is_finite (finite_or x 0·0))
unfolding is_finite of_bits
or_zero_finite x = finite_or_finite x 0·0 tt

pub sin_cos_far : (x : Float) → T (not (in_range x)) → (sinf x ≡ 0·0) × (cosf x ≡ 0·0)
unfolding sinf cosf of_bits
sin_cos_far x h = sincos_far x h

near_finite : (y : Float) (v : Value) → Near 20 y v → T (is_finite y)
unfolding is_finite
near_finite (fin s m e) v h = tt
near_finite nan v h = elim h [ ]
near_finite (inf _) v h = elim h [ ]

pub sin_cos_finite : (x : Float) → T (fits binary32 x) → T (is_finite (sinf x)) × T (is_finite (cosf x))
unfolding is_finite in_range of_bits
sin_cos_finite x f = go (in_range x) refl
  where
    go : (t : Bool) → in_range x ≡ t → T (is_finite (sinf x)) × T (is_finite (cosf x))
    go true e = (near_finite (sinf x) _ ((sinf_rule x f).near (held e)), near_finite (cosf x) _ ((cosf_rule x f).near (held e)))
    go false e = let z = sin_cos_far x (subst (λ (b : Bool). T (not b)) (sym e) tt) in rw (z.0, z.1) (tt, tt)
