-- The steps on whole numbers are close to the eight terms, and so are x and 1 where x is small; and no product of the steps is too large. Assumes nothing.
use Rattle.laws.proofs.Prelude.{◌≡◌, sym, ap, ◌∙◌, subst, ℕ, suc, ◌+◌, ◌*◌, ◌-◌, ◌/◌, ◌≤◌, ◌<◌, le_of_lt, le_trans, add-mul, mul-le-mul_left, mul-le-mul_right, mul-le-mul, mul-pos, div-mul-le_self}
use Rattle.laws.proofs.Prelude.{arith, lit<, lit≤}
use Rattle.std.proofs.Common.{sub-add_cancel, sub-le}
use mir.{Val.Fits, Syntax.w64}
use Rattle.relay_math.specs.Steps.{F, part, cut_square, horner, less_part, sin_poly, cos_poly}
use Rattle.relay_math.proofs.Horner.{Nest, by, nest, scaled, sin_exact, cos_exact, sin_terms, cos_terms, Close, Square, Share, cut, step, times, carry}

-- 1 in units of 2 ^ -48, the most that R can be, P / 2, and the error of the steps: 2 ^ -25
abbrev pub One : ℕ
One = 281474976710656

abbrev pub Half : ℕ
Half = 0xC90FDAA22168

abbrev pub Err : ℕ
Err = 8388608

-- ---- sizes
product : (z t : ℕ) → z < F → t ≤ F → z * t ≤ 4294967295 * F
product z t Z T = mul-le-mul {n₁ = z} {n₂ = 4294967295} (omega arith) T

pub product_fits : (z t : ℕ) → z < F → t ≤ F → Fits w64 (z * t)
product_fits z t Z T = record { fits = omega (arith, product z t Z T) }

pub part_small : (z t : ℕ) → z < F → t ≤ F → part z t < F
part_small z t Z T = omega (arith, product z t Z T)

pub part_least : (z t : ℕ) → z ≤ F → part z t ≤ t
part_least z t Z = let h : z * t ≤ F * t = mul-le-mul_right t Z in omega arith

pub part_of_less : (r q : ℕ) → q ≤ F → r / 65536 * q / 65536 ≤ r
part_of_less r q Q = let h : r / 65536 * q ≤ r / 65536 * F = mul-le-mul_left (r / 65536) Q in omega arith

pub sin_most : (R z : ℕ) → R ≤ Half → sin_poly R z ≤ One
unfolding sin_poly
sin_most R z h = le_trans (sub-le R _) (le_trans h (lit≤ tt))

pub cos_most : (z : ℕ) → cos_poly z ≤ One
unfolding cos_poly
cos_most z = sub-le One _

-- ---- the square
five_eighths : (R g : ℕ) → R ≤ Half → 8 * (R * g * (R * g)) ≤ 5 * (One * g * (One * g))
five_eighths R g S =
    let h : 8 * (R * R) * (g * g) ≤ 5 * (One * One) * (g * g) = mul-le-mul_right (g * g) (le_trans (mul-le-mul_left 8 (mul-le-mul S S)) (lit≤ tt)) in
    omega (arith, h)

square_is : (R g : ℕ) → R ≤ Half → Square (cut_square R) (R * g * (R * g)) (One * g * (One * g))
unfolding cut_square
square_is R g S =
    let h = R / 65536 in let x : h < F = omega arith in
    let a : h * 65536 * (h * 65536) ≤ R * R = mul-le-mul (div-mul-le_self R 65536) (div-mul-le_self R 65536) in
    let b : R ≤ h * 65536 + 65536 = omega arith in
    let c : R * R ≤ (h * 65536 + 65536) * (h * 65536 + 65536) = mul-le-mul b b in
    let u : h * h / F * 18446744073709551616 * (g * g) ≤ R * R * (g * g) = mul-le-mul_right (g * g) (omega (arith, a)) in
    let v : R * R * (g * g) ≤ (h * h / F + 3) * 18446744073709551616 * (g * g) = mul-le-mul_right (g * g) (omega (arith, c, x)) in
    record { top = le_of_lt (part_small h h x (le_of_lt x)); under = omega (arith, u); over = omega (arith, v); small = five_eighths R g S }

-- ---- the chains, each from its last coefficient, which stands for all the terms that are left out
module _ {z a b : ℕ} (s : Square z a b) where
  start : (e m K k c : ℕ) → K * m ≤ F → F ≤ K * m + e * m → K * m * (by k * 8) + F * 5 ≤ (F + e * m) * (by k * 8) → Share m e K (nest a b k (suc c))
  start e m K k c T E G =
      let i : (K * m * (by k * 8) + F * 5) * b ≤ (F + e * m) * (by k * 8) * b = mul-le-mul_right b G in
      let j : F * (8 * a) ≤ F * (5 * b) = mul-le-mul_left F s.small in
      record { close = cut a b (omega (arith, s.small)) F (e * m) (K * m) k c T E (omega (arith, i, j)) }

  cos_chain : Share 1 119 (horner z F (horner z 0x80000000 (horner z 0xAAAAAAB (horner z 0x5B05B0 0x19D60)))) (nest a b 0 7)
  cos_chain =
      step 0 6 1 F s (lit≤ tt) (lit≤ tt) (lit≤ tt) (le_trans (sub-le _ _) (lit≤ tt)) (step 2 5 2 0x80000000 s (lit≤ tt) (lit≤ tt) (lit≤ tt) (le_trans (sub-le _ _) (lit≤ tt))
      (step 4 4 24 0xAAAAAAB s (lit≤ tt) (lit≤ tt) (lit≤ tt) (le_trans (sub-le _ _) (lit≤ tt)) (step 6 3 720 0x5B05B0 s (lit≤ tt) (lit≤ tt) (lit≤ tt) (lit≤ tt)
      (start 700 40320 0x19D60 8 2 (lit≤ tt) (lit≤ tt) (lit≤ tt)))))

  sin_chain : Share 1 22 (horner z F (horner z 0x2AAAAAAB (horner z 0x2222222 (horner z 0xD00D0 0x2DFC)))) (nest a b 1 7)
  sin_chain =
      step 1 6 1 F s (lit≤ tt) (lit≤ tt) (lit≤ tt) (le_trans (sub-le _ _) (lit≤ tt)) (step 3 5 6 0x2AAAAAAB s (lit≤ tt) (lit≤ tt) (lit≤ tt) (le_trans (sub-le _ _) (lit≤ tt))
      (step 5 4 120 0x2222222 s (lit≤ tt) (lit≤ tt) (lit≤ tt) (le_trans (sub-le _ _) (lit≤ tt)) (step 7 3 5040 0xD00D0 s (lit≤ tt) (lit≤ tt) (lit≤ tt) (lit≤ tt)
      (start 65 362880 0x2DFC 9 2 (lit≤ tt) (lit≤ tt) (lit≤ tt)))))

-- ---- R (1 - q / F), cut twice, in units of 2 ^ -48
less_close : (R q : ℕ) → q ≤ F → (less_part R q * F ≤ (F - q) * R + 65537 * F) × ((F - q) * R ≤ less_part R q * F)
less_close R q Q =
    let h = R / 65536 in let c = h * q / 65536 in
    let a : h * 65536 * q ≤ R * q = mul-le-mul_right q (div-mul-le_self R 65536) in
    let b : R * q ≤ (h * 65536 + 65536) * q = mul-le-mul_right q (omega arith) in
    let i : R - c + c ≡ R = sub-add_cancel (part_of_less R q Q) in
    let m : (F - q) * R + q * R ≡ F * R = sym (add-mul (F - q) q R) ∙ ap (λ (y : ℕ). y * R) (sub-add_cancel Q) in
    (omega (arith, a, b, i, m), omega (arith, a, b, i, m))

-- and so of a chain: its nest, and R / One times its nest
whole_close : {e : ℕ} {x : Nest} (q : ℕ) → q ≤ F → e * 65536 + 65537 ≤ Err → Share 1 e (F - q) x → Close One Err (less_part One q) x
whole_close q Q E c = let d = less_close One q Q in carry One 65537 Err (less_part One q) (lit< tt) (omega (arith, d.0)) (omega (arith, d.1)) (omega arith) c.close

times_close : {e : ℕ} {x : Nest} (R q g : ℕ) → 0 < g → R ≤ One → q ≤ F → e * 65536 + 65537 ≤ Err → Share 1 e (F - q) x → Close One Err (less_part R q) (scaled (R * g) (One * g) x)
times_close {e} R q g G S Q E c =
    let l = One * g in let d = less_close R q Q in
    let h : less_part R q * F * l ≤ ((F - q) * R + 65537 * F) * l = mul-le-mul_right l d.0 in
    let k : (F - q) * R * l ≤ less_part R q * F * l = mul-le-mul_right l d.1 in
    let i : (e * 65536 + 65537) * g ≤ Err * g = mul-le-mul_right g E in
    carry One 65537 Err (less_part R q) (mul-pos (lit< tt) (mul-pos (lit< tt) G)) (omega (arith, h)) (omega (arith, k)) (omega (arith, i)) (times (R * g) l (mul-le-mul_right g S) c.close)

module _ (R g : ℕ) (G : 0 < g) (S : R ≤ Half) where
  taken : (k t : ℕ) → k ≤ F → part (cut_square R) (horner (cut_square R) k t) ≤ F
  taken k t K = le_trans (part_least (cut_square R) _ (square_is R g S).top) (le_trans (sub-le k _) K)

  pub cos_fixed : Close One Err (cos_poly (cut_square R)) (cos_exact (R * g) (One * g))
  unfolding cos_poly
  cos_fixed = subst (Close One Err _) (cos_terms (R * g) (One * g)) (whole_close _ (taken 0x80000000 _ (lit≤ tt)) (lit≤ tt) (cos_chain (square_is R g S)))

  pub sin_fixed : Close One Err (sin_poly R (cut_square R)) (sin_exact (R * g) (One * g))
  unfolding sin_poly
  sin_fixed = subst (Close One Err _) (sin_terms (R * g) (One * g)) (times_close R _ g G (le_trans S (lit≤ tt)) (taken 0x2AAAAAAB _ (lit≤ tt)) (lit≤ tt) (sin_chain (square_is R g S)))

-- ---- u / l at most 2 ^ -12: the nests are within 2 ^ -24 of 1
module _ (u l e : ℕ) (S : u * 4096 ≤ l) (Z : 0 < l) (E : l ≤ e * 16777216) where
  below : u ≤ l
  below = omega arith

  one_near : (k : ℕ) → Close 16777216 1 16777216 (nest (u * u) (l * l) k 7)
  one_near k =
      let h : u * 4096 * (u * 4096) ≤ l * l = mul-le-mul S S in
      let i : 2 * (l * l) ≤ by k * (l * l) = mul-le-mul_right (l * l) (omega arith) in
      cut (u * u) (l * l) (mul-le-mul below below) 16777216 1 16777216 k 6 (lit≤ tt) (lit≤ tt) (omega (arith, h, i))

  pub tiny_cos : Close l e l (cos_exact u l)
  tiny_cos = subst (Close l e l) (cos_terms u l) (carry l 0 e l (lit< tt) (omega arith) (omega arith) (omega arith) (one_near 0))

  pub tiny_sin : Close l e u (sin_exact u l)
  tiny_sin =
      let h : l * l ≤ e * 16777216 * l = mul-le-mul_right l E in
      subst (Close l e u) (sin_terms u l) (carry l 0 e u (mul-pos (lit< tt) Z) (omega arith) (omega arith) (omega (arith, h)) (times u l below (one_near 1)))
