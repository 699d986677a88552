-- The theorem on sine and cosine: with any limit up to 2 ^ 13 the steps meet document 01's rule, for every f32. Assumes nothing.
use Rattle.laws.proofs.Prelude.{◌≡◌, refl, sym, ◌∙◌, subst, Bool, true, false, not, cond, ℕ, ◌+◌, ◌*◌, ◌%◌, ◌^◌, ◌≤◌, ◌<◌, le_of_lt, lt_of_not-le, not-le_of_lt, arith, ℤ, pos, negsuc, T, lit<, lit≤}
use Rattle.laws.proofs.Prelude.{Float, nan, inf, fin, up, down, fits, binary32, lt, le, eq, neg, le-leb, held}
use lib.Ieee.{Bits.{is_true, is_false}, Positive.positive}
use Rattle.std.proofs.Common.{leb-false}
use Rattle.relay_math.specs.{declared.angles.SineCosine.SineCosine, Exact.{P149, Near, sin_at, cos_at, exact_sine, exact_cosine, Limit, up_to, in_range, is_minus, IsSine, IsCosine}}
use Rattle.relay_math.specs.{F32.{grains, fabsf}, Steps.{fixed, reduce_of, turned, large, Zero, One, Tiny, Most, sincos_to, sincos, sinf, cosf}}
use Rattle.relay_math.proofs.{Signs.le_is, Order.le_trans, Grains.grains_exact, Horner.{sin_exact, cos_exact}, Fixed.{tiny_sin, tiny_cos}}
use Rattle.relay_math.proofs.{AngleNear.{near_of, wider, quarters, sin_near, cos_near}, AngleReduction.{at_least, known, Turn, few, small, turn, no_turn}}

abbrev Both : Bool → ℕ → SineCosine → Type 0
Both s u r = Near 23 r.sine (exact_sine s u) × Near 23 r.cosine (exact_cosine s u)

by_turn : (s b : Bool) (u n R : ℕ) (S C : Float) → Turn u n R b → n < 4 → Near 23 S (sin_at false R) → Near 23 C (cos_at R)
    → Both s u record { sine = turned s n b S C; cosine = turned false ((n + 1) % 4) b S C }
unfolding exact_sine exact_cosine
by_turn s b u n R S C t l hs hc = rw (t.quarter_is s, t.back_is, t.rest_is) (quarters S C R hs hc s b n l)

-- ---- from 2 ^ -12 on
large_near : (s : Bool) (x : Float) → Both s (fixed x * 2 ^ 101) (large s x)
unfolding large reduce_of
large_near s x =
    let X = fixed x in let d = reduce_of X in
    by_turn s d.back (X * 2 ^ 101) d.n (d.r * 2 ^ 101) _ _ (turn X) (few X) (sin_near d.r (small X)) (cos_near d.r (small X))

-- ---- below 2 ^ -12 nothing is taken off
own_size : (s : Bool) (m : ℕ) (e : ℤ) → ◌≡◌ {A = SineCosine} record { sine = turned s 0 false (fin false m e) One; cosine = turned false 1 false (fin false m e) One } record
    { sine = fin s m e; cosine = One }
unfolding turned neg
own_size true m e = refl
own_size false m e = refl

half_below : (u L Q : ℕ) → u * 4096 < L → L ≤ Q → 2 * u ≤ Q
half_below u L Q h k = omega arith

tiny_near : (s : Bool) (m : ℕ) (e : ℤ) → T (fits binary32 (fin s m e)) → m * up e * 4096 < down e → Both s (grains (fin s m e)) record { sine = fin s m e; cosine = One }
tiny_near s m e F K =
    let u = grains (fin s m e) in let E = grains_exact s m e F in
    let S : u * 4096 < 2 ^ 149 = lt_of_not-le (λ (g : 2 ^ 149 ≤ u * 4096). not-le_of_lt K (at_least u (2 ^ 149) (m * up e) (down e) 4096 (lit< tt) (sym E) g)) in
    subst (Both s u) (own_size s m e)
    (by_turn s false u 0 u (fin false m e) One (no_turn u (half_below u (2 ^ 149) P149 S (lit≤ tt))) (lit< tt)
    (near_of (fin false m e) u (2 ^ 125) (sin_exact u (2 ^ 149)) (refl, E) (lit≤ tt) (tiny_sin u (2 ^ 149) (2 ^ 125) (le_of_lt S) (lit< tt) (lit≤ tt)))
    (near_of One (2 ^ 149) (2 ^ 125) (cos_exact u (2 ^ 149)) (refl, refl) (lit≤ tt) (tiny_cos u (2 ^ 149) (2 ^ 125) (le_of_lt S) (lit< tt) (lit≤ tt))))

-- a limit above 0 is above the zero
zero_under : (limit : Float) → T (positive limit) → le Zero limit ≡ true
zero_under (fin false m d) p = le_is 0 (pos 0) m d ∙ le-leb (0 * 1 * down d) (m * up d * 1) (omega arith)
zero_under nan p = elim p [ ]
zero_under (inf _) p = elim p [ ]
zero_under (fin true m d) p = elim p [ ]

abbrev Zeros : SineCosine → Type 0
Zeros r = (r.sine ≡ fin false 0 (pos 0)) × (r.cosine ≡ fin false 0 (pos 0))

-- document 01's rule for both answers
abbrev pub Rule : Float → ℕ → Float → SineCosine → Type 0
Rule limit k x r = IsSine limit k x r.sine × IsCosine limit k x r.cosine

-- ---- the theorem, for every limit above 0 and up to 2 ^ 13
module _ (limit : Float) (above : T (positive limit)) (under : T (le limit Most)) where
  zero_case : (s : Bool) → sincos_to limit (fin s 0 (pos 0)) ≡ record { sine = fin s 0 (pos 0); cosine = One }
  unfolding sincos_to fabsf
  zero_case s = rw (zero_under limit above) (unfold le lt eq in refl)

  near_case : (x : Float) → T (fits binary32 x) → T (up_to limit x) → Both (is_minus x) (grains x) (sincos_to limit x)
  unfolding sincos_to fabsf
  near_case nan F h = unfold le lt eq in absurd h
  near_case (inf s) F h = unfold le lt eq in absurd (le_trans (inf false) limit Most h under)
  near_case (fin s m e) F h = rw (is_true (le (fin false m e) limit) h) (go (le Tiny (fin false m e)) refl)
    where
      go : (t : Bool) → le Tiny (fin false m e) ≡ t → Both s (grains (fin s m e)) (cond t (large s (fin s m e)) record { sine = fin s m e; cosine = One })
      go true t = rw (known (fin s m e) F (held t) (le_trans (fin false m e) limit Most h under)).is (large_near s (fin s m e))
      go false t = tiny_near s m e F (omega (arith, leb-false (1 * 1 * down e) (m * up e * 4096) (sym (le_is 1 (negsuc 11) m e) ∙ t)))

  pub far_case : (x : Float) → T (not (up_to limit x)) → Zeros (sincos_to limit x)
  unfolding sincos_to
  far_case x h = rw (is_false (up_to limit x) h) (refl, refl)

  -- within 2 ^ -23
  pub sincos_near : (x : Float) → T (fits binary32 x) → Rule limit 23 x (sincos_to limit x)
  sincos_near x F = (
    record { near = λ h. (near_case x F h).0; far = λ h. (far_case x h).0; of_zero = λ s e. rw (e, zero_case s) },
    record { near = λ h. (near_case x F h).1; far = λ h. (far_case x h).1; of_zero = λ s e. rw (e, zero_case s) },
  )

  -- document 01's own bound, 2 ^ -20
  pub sincos_rule : (x : Float) → T (fits binary32 x) → Rule limit 20 x (sincos_to limit x)
  sincos_rule x F =
      let r = sincos_near x F in (
        record { near = λ h. wider 20 (sincos_to limit x).sine _ (r.0.near h); far = r.0.far; of_zero = r.0.of_zero },
        record { near = λ h. wider 20 (sincos_to limit x).cosine _ (r.1.near h); far = r.1.far; of_zero = r.1.of_zero },
      )

-- at today's limit
pub sincos_far : (x : Float) → T (not (in_range x)) → Zeros (sincos x)
unfolding sincos in_range
sincos_far x h = far_case Limit tt tt x h

pub sinf_rule : (x : Float) → T (fits binary32 x) → IsSine Limit 20 x (sinf x)
unfolding sinf le lt
sinf_rule x F = (sincos_rule Limit tt tt x F).0

pub cosf_rule : (x : Float) → T (fits binary32 x) → IsCosine Limit 20 x (cosf x)
unfolding cosf le lt
cosf_rule x F = (sincos_rule Limit tt tt x F).1
