-- Sine and cosine are at most 1 in size, for every f32, and so a product of two of them is finite. Assumes nothing.
use Rattle.laws.proofs.Prelude.{◌≡◌, refl, sym, ◌∙◌, subst, Bool, true, false, not, ◌&&◌, cond, ℕ, ◌+◌, ◌*◌, ◌%◌, ◌^◌, ◌≤◌, ◌<◌, mul-pos, mul-le-mul, arith, not-false, ℤ, pos, T, leb, eqb, lit<}
use Rattle.laws.proofs.Prelude.{leb→le, Float, nan, inf, fin, binary32, up, down, is_nan, unlike, neg, lt, le, eq, mul, round, of_bits, held}
use lib.Ieee.{Fits.down_pos, Order.round_mono}
use Rattle.relay_math.specs.{declared.angles.{SineCosine.SineCosine, Reduced.Reduced}, F32.{◌⊗◌, 1·0, is_finite, fabsf}, Exact.{Limit, is_minus}}
use Rattle.relay_math.specs.Steps.{sin_poly, cos_poly, to_float, signed, fixed, reduce_of, turned, turned_by, large, sincos_to, sincos, sinf, cosf, Zero, One, Tiny}
use Rattle.relay_math.proofs.{Signs.{le_is, of_rounded}, Order.{le_is_not_above, le_left, le_of_lt, le_trans}, Round.{one_rounds, round_signed}, AngleReduction.small}

-- a number of size at most 1
abbrev Small : Float → Type 0
Small x = T (le (fabsf x) 1·0)

pub size_finite : (x : Float) → T (le (fabsf x) 1·0) → T (is_finite x)
unfolding is_finite fabsf le lt eq of_bits
size_finite (fin s m e) h = tt
size_finite nan h = elim h [ ]
size_finite (inf _) h = elim h [ ]

-- a fraction of at most 1 rounds to at most 1
round_small : (a c : ℕ) → 0 < c → a ≤ c → Small (round binary32 false a c)
unfolding fabsf of_bits
round_small a c C h = rw (of_rounded (λ (x : Float). fabsf x ≡ x) false (λ m e. refl) refl a c) (rw one_rounds at (round_mono binary32 a c 1 1 C (lit< tt) (omega (arith, h))))

-- ---- the steps

abbrev Pair : SineCosine → Type 0
Pair r = Small r.sine × Small r.cosine

signed_small : (b : Bool) (x : Float) → Small x → Small (signed b x)
unfolding neg fabsf
signed_small true nan h = h
signed_small true (inf s) h = h
signed_small true (fin s m e) h = h
signed_small false x h = h

pick_small : (b : Bool) (x y : Float) → Small x → Small y → Small (cond b x y)
pick_small true x y h k = h
pick_small false x y h k = k

by_small : (s : Bool) (n : ℕ) (d : Reduced) → d.r ≤ 2 ^ 48 → Small (turned_by s n d)
unfolding turned to_float sin_poly cos_poly
by_small s n d h =
    let even = eqb (n % 2) 0 in
    signed_small (unlike (unlike s (leb 2 n)) (even && d.back)) (cond even (to_float (sin_poly d.r d.z)) (to_float (cos_poly d.z)))
    (pick_small even _ _ (round_small (sin_poly d.r d.z) (2 ^ 48) (lit< tt) (omega (arith, h))) (round_small (cos_poly d.z) (2 ^ 48) (lit< tt) (omega arith)))

-- below 2 ^ -12 the sine is x itself
tiny_small : (x : Float) → le (fabsf x) Limit ≡ true → le Tiny (fabsf x) ≡ false → Small x
tiny_small x p q =
    let a = fabsf x in
    let h : not (lt a Tiny) ≡ false = sym (le_is_not_above a Tiny (le_left a Limit (held p)) (unfold is_nan in tt)) ∙ q in
    le_trans a Tiny 1·0 (le_of_lt a Tiny (not-false (lt a Tiny) h)) (unfold le lt of_bits in tt)

pair : (x : Float) → Pair (sincos x)
unfolding sincos sincos_to large
pair x = go (le (fabsf x) Limit) (le Tiny (fabsf x)) refl refl
  where
    go : (t u : Bool) → le (fabsf x) Limit ≡ t → le Tiny (fabsf x) ≡ u → Pair (cond t (cond u (large (is_minus x) x) record { sine = x; cosine = One }) record { sine = Zero; cosine = Zero })
    go true true p q =
        let d = reduce_of (fixed x) in
        let h : d.r ≤ 2 ^ 48 = omega (arith, small (fixed x)) in
        (by_small (is_minus x) d.n d h, by_small false ((d.n + 1) % 4) d h)
    go true false p q = (tiny_small x p q, unfold le lt eq fabsf of_bits in tt)
    go false u p q = unfold le lt eq fabsf of_bits in (tt, tt)

pub sin_cos_size : (x : Float) → T (le (fabsf (sinf x)) 1·0) × T (le (fabsf (cosf x)) 1·0)
unfolding sinf cosf
sin_cos_size x = pair x

-- ---- a product
as_fraction : (m : ℕ) (e : ℤ) → T (le (fin false m e) One) → m * up e ≤ down e
as_fraction m e h = omega (arith, leb→le (m * up e * 1) (1 * 1 * down e) (subst T (le_is m e 1 (pos 0)) h))

pub product_finite : (x y : Float) → T (le (fabsf x) 1·0) → T (le (fabsf y) 1·0) → T (is_finite (x ⊗ y))
unfolding mul fabsf le of_bits
product_finite (fin s m e) (fin t n d) h k =
    let a = m * up e * (n * up d) in let c = down e * down d in
    let r : Small (round binary32 false a c) = round_small a c (mul-pos (down_pos e) (down_pos d)) (mul-le-mul (as_fraction m e h) (as_fraction n d k)) in
    size_finite (round binary32 (unlike s t) a c) (rw (round_signed (unlike s t) a c) (signed_small (unlike s t) (round binary32 false a c) r))
product_finite nan y h k = elim h [ ]
product_finite (inf _) y h k = elim h [ ]
product_finite (fin s m e) nan h k = elim k [ ]
product_finite (fin s m e) (inf _) h k = elim k [ ]
