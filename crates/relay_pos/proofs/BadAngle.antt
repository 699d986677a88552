-- An angle that is no number, infinite or beyond twice the limit of sine and cosine gives four zeros, whatever the other two are. Assumes nothing.
use Rattle.laws.proofs.Prelude.{◌≡◌, refl, sym, ap, ◌∙◌, subst, inl, inr, Bool, false, not, ℕ, zero, suc, ◌*◌, ◌^◌, ◌≤◌, ◌<◌, le_trans, le_of_lt, lt_of_le_of_lt, lt_of_not-le, not-le_of_lt, mul-pos}
use Rattle.laws.proofs.Prelude.{mul_assoc, mul-le-mul_right, mul-one, pow-suc, arith, ℤ, pos, T, lit<, lit≤, Float, nan, inf, fin, binary32, fits, up, down, unlike, round, mul, le, of_bits}
use lib.{Dec.{T_not, not_T}, Ieee.{Fits.down_pos, Exact.{HasValue, round_exact}, Order.le_of_values, Positive.{num, den, positive, den_pos, own_value, positive_of_value, values_of_le}}}
use Rattle.relay_math.{specs.{F32.{◌⊗◌, 0·5, 1·0, fabsf, grains}, Exact.{Limit, up_to, in_range}, Steps.{sinf, cosf}}, proofs.{Grains.{placed, grains_of, grains_under}, FiniteOr.sin_cos_far}}
use Rattle.relay_math.proofs.{Sizes.{sin_cos_size, size_finite, product_finite}, Zeros.{IsZero, none, equal, times, by, plus, minus}}
use Rattle.relay_pos.specs.Euler.{euler_to_quaternion, twice, served, Bad, ZeroQuaternion}

-- ---- the half of such an angle is out of range: halving a number so large is exact

-- m * 2 ^ e is beyond y: as fractions, and x = A / C likewise
beyond : (m : ℕ) (e : ℤ) (y : Float) → T (positive y) → T (not (le (fin false m e) y)) → num y * down e < m * up e * den y
beyond m e y p h = lt_of_not-le (λ g. T_not (le (fin false m e) y) h (le_of_values (fin false m e) y (m * up e) (down e) (num y) (den y) (down_pos e) (den_pos y) (refl, refl) (own_value y p) g))

value_beyond : (x y : Float) (s : Bool) (A C : ℕ) → T (positive y) → HasValue x s A C → 0 < A → num y * C < A * den y → T (not (up_to y x))
unfolding fabsf
value_beyond nan y s A C p v z h = absurd v
value_beyond (inf t) y s A C p v z h = absurd v
value_beyond (fin t n d) y s A C p v z h =
    not_T (le (fin false n d) y) (λ g. not-le_of_lt h (values_of_le (fin false n d) y A C (num y) (den y) (positive_of_value (fin false n d) A C (refl, v.1) z) p (refl, v.1) (own_value y p) g))

-- m * 2 ^ j grains of A / D with j = 0 would be less than D
few : (m D A L : ℕ) → m ≤ L → m * 1 * D ≡ A * L → D < A → 0 < L → ⊥
few m D A L h e k z =
    let i : m * D ≤ L * D = mul-le-mul_right D h in let j : suc D * L ≤ A * L = mul-le-mul_right L k in
    omega (arith, i, j, e, z)

doubled : (a : ℕ) → a ≤ a * 2
doubled a = omega arith

regrouped : (a D : ℕ) → a * 2 * D ≡ a * (D * 2)
regrouped a D = omega arith

half_value : (s : Bool) (m : ℕ) (e : ℤ) → T (fits binary32 (fin s m e)) → down e < m * up e → HasValue (fin s m e ⊗ 0·5) (unlike s false) (m * up e) (down e * 2)
unfolding mul of_bits
half_value s m e F h = let p = placed s m e F in go p.0 p.1 p.2
  where
    go : (j : ℕ) → m < 2 ^ 24 → m * up e * 2 ^ 149 ≡ m * 2 ^ j * down e → HasValue (fin s m e ⊗ 0·5) (unlike s false) (m * up e) (down e * 2)
    go zero l q = absurd (few m (down e) (m * up e) (2 ^ 149) (le_trans (le_of_lt l) (lit≤ tt)) (sym q) h (lit< tt))
    go (suc j) l q =
        let g : grains (fin s m e) ≡ m * 2 ^ suc j = grains_of (fin s m e) s (m * 2 ^ suc j) (refl, q) in
        let w : m * 2 ^ suc j ≡ m * 2 ^ j * 2 = ap (λ (x : ℕ). m * x) (pow-suc 2 j) ∙ sym (mul_assoc m (2 ^ j) 2) in
        let u : m * 2 ^ j < 2 ^ 277 = lt_of_le_of_lt (doubled (m * 2 ^ j)) (subst (λ (x : ℕ). x < 2 ^ 277) (g ∙ w) (grains_under s m e F)) in
        let v : m * up e * 2 ^ 149 ≡ m * 2 ^ j * (down e * 2) = q ∙ ap (λ (x : ℕ). x * down e) w ∙ regrouped (m * 2 ^ j) (down e) in
        subst (λ (a : ℕ). HasValue (round binary32 (unlike s false) a (down e * 2)) (unlike s false) (m * up e) (down e * 2)) (sym (mul-one (m * up e)))
        (round_exact binary32 (unlike s false) (m * up e) (down e * 2) m j (mul-pos (down_pos e) (lit< tt)) l u v)

half_far : (x : Float) → T (fits binary32 x) → T (not (served x)) → T (not (in_range (x ⊗ 0·5)))
unfolding mul in_range le fabsf of_bits
half_far nan F h = tt
half_far (inf s) F h = tt
half_far (fin s m e) F h =
    let l = beyond m e (twice Limit) tt h in
    value_beyond (fin s m e ⊗ 0·5) Limit (unlike s false) (m * up e) (down e * 2) tt (half_value s m e F (omega (arith, l))) (omega (arith, l)) (omega (arith, l))

-- ---- sine and cosine of the half: both at most 1 in size, both zero for such an angle

data Part (angle : Float) : Float → Type 0 where
  sine : Part angle (sinf (angle ⊗ 0·5))
  cosine : Part angle (cosf (angle ⊗ 0·5))

size : {angle x : Float} → Part angle x → T (le (fabsf x) 1·0)
size {angle} sine = (sin_cos_size (angle ⊗ 0·5)).0
size {angle} cosine = (sin_cos_size (angle ⊗ 0·5)).1

gone : {angle x : Float} → T (fits binary32 angle) → T (not (served angle)) → Part angle x → IsZero x
unfolding of_bits
gone {angle} F h sine = rw (sin_cos_far (angle ⊗ 0·5) (half_far angle F h)).0 (none false (pos 0))
gone {angle} F h cosine = rw (sin_cos_far (angle ⊗ 0·5) (half_far angle F h)).1 (none false (pos 0))

module _ (roll pitch yaw : Float) (R : T (fits binary32 roll)) (P : T (fits binary32 pitch)) (Y : T (fits binary32 yaw)) where
  product : Bad roll pitch yaw → {a b c : Float} → Part roll a → Part pitch b → Part yaw c → IsZero (a ⊗ b ⊗ c)
  product (inl h) {a} {b} {c} r p y = by c (by b (gone R h r) (size_finite b (size p))) (size_finite c (size y))
  product (inr (inl h)) {a} {b} {c} r p y = by c (times a (size_finite a (size r)) (gone P h p)) (size_finite c (size y))
  product (inr (inr h)) {a} {b} {c} r p y = times (a ⊗ b) (product_finite a b (size r) (size p)) (gone Y h y)

  pub bad_angle_zeros : Bad roll pitch yaw → ZeroQuaternion (euler_to_quaternion roll pitch yaw)
  unfolding euler_to_quaternion
  bad_angle_zeros h = record {
    w = equal (plus (product h cosine cosine cosine) (product h sine sine sine));
    x = equal (minus (product h sine cosine cosine) (product h cosine sine sine));
    y = equal (plus (product h cosine sine cosine) (product h sine cosine sine));
    z = equal (minus (product h cosine cosine sine) (product h sine sine cosine));
  }
