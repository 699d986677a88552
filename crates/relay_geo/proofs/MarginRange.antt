-- The margin for all bits of everything: what it can be, and its cases in document 01's words. Assumes nothing.
use Rattle.laws.proofs.Prelude.{ℕ, ◌≡◌, refl, sym, ap, ◌∙◌, ◌⊎◌, inl, inr, Bool, true, false, not, ◌&&◌, ◌||◌, cond, arith, Float, nan, inf, fin, sub, lt, le, is_nan, of_bits, no, held, both}
use Rattle.relay_math.{specs.F32.{◌⊖◌, 0·0, is_finite, finite_or, finite_above}, proofs.Order.{finite_number, le_is_not_above}}
use Rattle.relay_geo.specs.{declared.set.RecoverableSet.RecoverableSet, Set.{minus_infinity, unknown, psi_margin, rate_margin, smaller, margin}}

-- ---- finite or minus infinity, and nothing else

-- finite, or minus infinity
abbrev pub Ranges : Float → Type 0
Ranges m = (is_finite m ≡ true) ⊎ (m ≡ minus_infinity)

ranges : (b : Bool) (m : Float) → Ranges (cond b minus_infinity (finite_or m minus_infinity))
ranges true m = inr refl
ranges false m = go (is_finite m) refl
  where
    go : (f : Bool) → is_finite m ≡ f → Ranges (cond f m minus_infinity)
    go true e = inl e
    go false e = inr refl

pub margin_finite_or_minus_infinity : (set : RecoverableSet) (psi eOmegaSq : Float) → Ranges (margin set psi eOmegaSq)
unfolding margin
margin_finite_or_minus_infinity set psi w = ranges (unknown psi w set.lambda_j) (smaller (psi_margin set psi) (rate_margin set psi w))

neither : (m : Float) → Ranges m → (m ≡ nan → ⊥) × (m ≡ inf false → ⊥)
unfolding is_finite
neither m (inl e) = (λ h. no (ap is_finite (sym h) ∙ e), λ h. no (ap is_finite (sym h) ∙ e))
neither m (inr e) = (λ h. let z : ◌≡◌ {A = ℕ} 0 1 = cc in omega arith, λ h. let z : ◌≡◌ {A = ℕ} 0 1 = cc in omega arith)

pub margin_never_nan : (set : RecoverableSet) (psi eOmegaSq : Float) → margin set psi eOmegaSq ≡ nan → ⊥
margin_never_nan set psi w = (neither (margin set psi w) (margin_finite_or_minus_infinity set psi w)).0

pub margin_never_plus_infinity : (set : RecoverableSet) (psi eOmegaSq : Float) → margin set psi eOmegaSq ≡ inf false → ⊥
margin_never_plus_infinity set psi w = (neither (margin set psi w) (margin_finite_or_minus_infinity set psi w)).1

-- ---- document 01: "minus infinity if psi, the squared rate or lambda_j is non-finite, or lambda_j is not above 0. Else the smaller of psi_max - psi and
-- 2 k_r (2 - psi) / lambda_j - squared rate, chosen by one strict comparison as in 000; if that is non-finite, minus infinity."

-- of a finite x, `x <= 0` says that it is not above 0
not_above : (x : Float) → is_finite x ≡ true → le x 0·0 ≡ not (lt 0·0 x)
unfolding is_nan of_bits
not_above x e = le_is_not_above 0·0 x tt (finite_number x (held e))

told : (a b c d u : Bool) → (c ≡ true → d ≡ not u) → (not a || not b || not c || d) ≡ not (a && b && (c && u))
told true true true d u h = h refl
told true true false d u h = refl
told true false c d u h = refl
told false b c d u h = refl

flip : (b : Bool) (x y : Float) → cond (not b) x y ≡ cond b y x
flip true x y = refl
flip false x y = refl

-- psi and the squared rate are finite, and lambda_j is finite and above 0
abbrev pub known : RecoverableSet → Float → Float → Bool
known set psi eOmegaSq = is_finite psi && is_finite eOmegaSq && finite_above 0·0 set.lambda_j

pub margin_cases : (set : RecoverableSet) (psi eOmegaSq : Float) → margin set psi eOmegaSq ≡ cond (known set psi eOmegaSq)
    (finite_or (smaller (psi_margin set psi) (rate_margin set psi eOmegaSq)) minus_infinity) minus_infinity
unfolding margin
margin_cases set psi w =
    let m : Float = finite_or (smaller (psi_margin set psi) (rate_margin set psi w)) minus_infinity in
    let t : Bool = lt 0·0 set.lambda_j in
    ap (λ (b : Bool). cond b minus_infinity m) (told (is_finite psi) (is_finite w) (is_finite set.lambda_j) (le set.lambda_j 0·0) t (not_above set.lambda_j))
    ∙ flip (known set psi w) minus_infinity m

-- ---- "A NaN psi_max therefore leaves the rate part alone, against the Rust's own comment." So does a psi_max of +infinity.

rate_part_alone : (set : RecoverableSet) (psi eOmegaSq : Float) → known set psi eOmegaSq ≡ true → lt (psi_margin set psi) (rate_margin set psi eOmegaSq) ≡ false → margin set psi eOmegaSq
    ≡ finite_or (rate_margin set psi eOmegaSq) minus_infinity
rate_part_alone set psi w k l = margin_cases set psi w ∙ rw (k, l)

nan_under : (x y : Float) → lt (nan ⊖ x) y ≡ false
unfolding sub lt
nan_under x y = refl

infinity_under : (x y : Float) → is_finite x ≡ true → lt (inf false ⊖ x) y ≡ false
unfolding sub lt is_finite
infinity_under nan y f = no f
infinity_under (inf s) y f = no f
infinity_under (fin s m e) nan f = refl
infinity_under (fin s m e) (inf t) f = refl
infinity_under (fin s m e) (fin t n d) f = refl

pub nan_psi_max_leaves_rate_part : (set : RecoverableSet) (psi eOmegaSq : Float) → known set psi eOmegaSq ≡ true → set.psi_max ≡ nan → margin set psi eOmegaSq ≡ finite_or
    (rate_margin set psi eOmegaSq) minus_infinity
nan_psi_max_leaves_rate_part set psi w k e = rate_part_alone set psi w k (rw e (nan_under psi (rate_margin set psi w)))

pub infinite_psi_max_leaves_rate_part : (set : RecoverableSet) (psi eOmegaSq : Float) → known set psi eOmegaSq ≡ true → set.psi_max ≡ inf false → margin set psi eOmegaSq ≡ finite_or
    (rate_margin set psi eOmegaSq) minus_infinity
infinite_psi_max_leaves_rate_part set psi w k e =
    rate_part_alone set psi w k (rw e (infinity_under psi (rate_margin set psi w) (both (is_finite psi) (is_finite w) (both (is_finite psi && is_finite w) (finite_above 0·0 set.lambda_j) k).0).0))
