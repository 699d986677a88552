-- The three arms of `sincos`, by the tests of the code. Assumes nothing.
use Rattle.laws.proofs.Prelude.{◌≡◌, refl, sym, ap, ◌∙◌, subst, Bool, true, false, ◌&&◌, cond, ℕ, zero, suc, ◌%◌, T, leb, eqb, Float, nan, inf, fin, binary32, fits, unlike, neg, lt, le, eq, held}
use Rattle.relay_math.specs.{declared.angles.SineCosine.SineCosine, Exact.{Limit, IsSine, IsCosine}, F32.fabsf}
use Rattle.relay_math.specs.Steps.{to_float, signed, turned, large, sincos_to, sincos, sinf, cosf, Zero, One, Tiny, Most}
use Rattle.relay_math.proofs.{Signs.{zero_is, is_below}, Order.le_trans, AngleBound.{sinf_rule, cosf_rule}}

abbrev Arms : Bool → Float → Float → Type 0
Arms s a x = (le a Limit ≡ le (fabsf x) Limit) × (le Tiny a ≡ le Tiny (fabsf x)) ×
    (sincos x ≡ cond (le a Limit) (cond (le Tiny a) (large s x) record { sine = x; cosine = One }) record { sine = Zero; cosine = Zero })

arms_of : (x : Float) → T (fits binary32 x) → Arms (lt x Zero) (signed (lt x Zero) x) x
unfolding sincos sincos_to lt le eq neg fabsf
arms_of nan f = (refl, refl, refl)
arms_of (inf true) f = (refl, refl, refl)
arms_of (inf false) f = (refl, refl, refl)
arms_of (fin true zero e) f = subst (λ (x : Float). Arms (lt x Zero) (signed (lt x Zero) x) x) (sym (zero_is true e f)) (refl, refl, refl)
arms_of (fin false zero e) f = subst (λ (x : Float). Arms (lt x Zero) (signed (lt x Zero) x) x) (sym (zero_is false e f)) (refl, refl, refl)
arms_of (fin true (suc m) e) f = rw (is_below m e true) (refl, refl, refl)
arms_of (fin false (suc m) e) f = rw (is_below m e false) (refl, refl, refl)

module _ (x a : Float) (l : Bool) (f : T (fits binary32 x)) (e : a ≡ signed (lt x Zero) x) (L : l ≡ le a Limit) where
  arms : Arms (lt x Zero) a x
  arms = rw e (arms_of x f)

  pub arm : (t u : Bool) → l ≡ t → le Tiny a ≡ u → sincos x ≡ cond t (cond u (large (lt x Zero) x) record { sine = x; cosine = One }) record { sine = Zero; cosine = Zero }
  arm t u h k = arms.2 ∙ rw (← L, h, k)

  -- LIMIT is below 2 ^ 13
  pub sized : l ≡ true → le Tiny a ≡ true → T (le Tiny (fabsf x)) × T (le (fabsf x) Most)
  sized h k = (held (sym arms.1 ∙ k), le_trans (fabsf x) Limit Most (held (sym arms.0 ∙ sym L ∙ h)) (unfold le lt in tt))

-- one polynomial, in the place of both
pub one : (s b : Bool) (n S C : ℕ) → let v = cond (eqb (n % 2) 0) S C in turned s n b (to_float v) (to_float v) ≡ turned s n b (to_float S) (to_float C)
unfolding turned
one s b n S C = ap (signed (unlike (unlike s (leb 2 n)) (eqb (n % 2) 0 && b))) (go (eqb (n % 2) 0))
  where
    go : (t : Bool) → cond t (to_float (cond t S C)) (to_float (cond t S C)) ≡ cond t (to_float S) (to_float C)
    go true = refl
    go false = refl

-- an answer of the steps meets document 01's rule
module _ (x r : Float) (p : SineCosine) (f : T (fits binary32 x)) (e : sincos x ≡ p) where
  pub is_sine : r ≡ p.sine → IsSine Limit 20 x r × (r ≡ sinf x)
  unfolding sinf
  is_sine h = let g : r ≡ sinf x = h ∙ ap (λ (q : SineCosine). q.sine) (sym e) in (rw g (sinf_rule x f), g)

  pub is_cosine : r ≡ p.cosine → IsCosine Limit 20 x r × (r ≡ cosf x)
  unfolding cosf
  is_cosine h = let g : r ≡ cosf x = h ∙ ap (λ (q : SineCosine). q.cosine) (sym e) in (rw g (cosf_rule x f), g)
