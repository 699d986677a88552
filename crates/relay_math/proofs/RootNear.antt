-- `nearest_root n` is the one whole number nearest to √n; and where N is n * 4 ^ k, no f32 is as near √N grains as its 2 ^ k-fold. Assumes nothing.
use Rattle.laws.proofs.Prelude.{inf, nan, ◌≡◌, refl, sym, ◌∙◌, ◌⊎◌, inl, inr, ℕ, zero, suc, ◌+◌, ◌-◌, ◌*◌, ◌/◌, ◌^◌, ◌≤◌, ◌<◌, le_of_eq, lt_of_lt_of_le, lt_of_not-le, le_trans, le_of_suc-le-suc, eq-or-lt_of_le}
use Rattle.laws.proofs.Prelude.{mul-le-mul, mul-le-mul_right, mul-lt-mul_of_pos_right, mul-pos, zero-lt-suc, pow-suc, arith, Bool, true, false, not, cond, T, leb, leb→le, pow-add, pow_pos, pow_mono}
use Rattle.laws.proofs.Prelude.{shl_lt, Float, fin, binary32, fits, le_or_lt}
use Rattle.std.proofs.Common.{div-lt_iff_lt-mul, lt_of_mul-lt-mul_right}
use lib.Dec.{nleb→lt}
use Rattle.relay_math.specs.{F32.grains, Sqrt.{natural, square, isqrt, nearest_root, Nearest}}
use Rattle.relay_math.proofs.Grains.{shift, reads}

-- ---- the whole root
abbrev pub Floor : ℕ → ℕ → Type 0
Floor n r = (r * r ≤ n) × (n < suc r * suc r)

abbrev pub Closest : ℕ → ℕ → Type 0
Closest n r = (r * r < n + r) × (n ≤ r * r + r)

step : (n r : ℕ) → Floor (n / 4) r → Floor n (cond (leb (square (suc (2 * r))) n) (suc (2 * r)) (2 * r))
step n r (l, h) = go (leb (square (suc (2 * r))) n) (leb→le (square (suc (2 * r))) n) (nleb→lt (square (suc (2 * r))) n)
  where
    go : (b : Bool) → (T b → square (suc (2 * r)) ≤ n) → (T (not b) → n < square (suc (2 * r))) → Floor n (cond b (suc (2 * r)) (2 * r))
    go true f g = (f tt, omega arith)
    go false f g = (omega arith, g tt)

floor : (d n : ℕ) → n < 4 ^ d → Floor n (isqrt d n)
unfolding isqrt
floor zero n h = omega arith
floor (suc d) n h = step n (isqrt d (n / 4)) (floor d (n / 4) ((div-lt_iff_lt-mul (zero-lt-suc 3)).1 (lt_of_lt_of_le h (le_of_eq (pow-suc 4 d)))))

pub closest : (n : ℕ) → 0 < n → n < 2 ^ 48 → Closest n (nearest_root n)
unfolding nearest_root
closest n p h = let q = isqrt 24 n in go q (floor 24 n h) (leb n (q * q + q)) (leb→le n (q * q + q)) (nleb→lt n (q * q + q))
  where
    go : (q : ℕ) → Floor n q → (b : Bool) → (T b → n ≤ q * q + q) → (T (not b) → q * q + q < n) → Closest n (cond b q (suc q))
    go zero (l, u) true f g = omega (arith, f tt)
    go (suc q) (l, u) true f g = omega (arith, f tt)
    go q (l, u) false f g = omega (arith, g tt)

-- a root that is nearest has no other below it
pub not_below : (n a b : ℕ) → n ≤ a * a + a → b * b < n + b → a < b → ⊥
not_below n a zero h g l = omega arith
not_below n a (suc c) h g l = let p : a * suc a ≤ c * suc c = mul-le-mul (le_of_suc-le-suc l) l in omega arith

pub closest_unique : (n a b : ℕ) → Closest n a → Closest n b → a ≡ b
closest_unique n a b (la, ha) (lb, hb) =
    let x : b < suc a = lt_of_not-le (not_below n a b ha lb) in
    let y : a < suc b = lt_of_not-le (not_below n b a hb la) in
    omega arith

-- the root of 47 or 48 digits has 24
pub digits : (n r : ℕ) → 2 ^ 46 ≤ n → n ≤ 2 ^ 48 - 2 ^ 24 → Closest n r → (2 ^ 23 ≤ r) × (r < 2 ^ 24)
digits n r l h (u, o) = (le_of_suc-le-suc (lt_of_not-le (not_below n r (2 ^ 23) o (omega arith))), lt_of_not-le (not_below n (2 ^ 24 - 1) r (omega arith) u))

-- ---- an f32 is a multiple of G = 2 ^ k grains, or below 2 ^ 23 * G
abbrev Grid : ℕ → ℕ → Type 0
Grid G Y = ((c : ℕ) × (Y ≡ c * G)) ⊎ (Y < 2 ^ 23 * G)

on_grid : (k : ℕ) (y : Float) → T (fits binary32 y) → T (natural y) → Grid (2 ^ k) (grains y)
on_grid k (fin false m e) t p =
    let w = reads m e t in
    elim (le_or_lt k w.k) [
      | inl a ↦ inl (w.q * 2 ^ (w.k - k), w.is ∙ shift w.q w.k k a)
      | inr a ↦ inr (rw w.is (lt_of_lt_of_le (shl_lt 24 w.k w.few) (le_trans (pow_mono (omega arith)) (le_of_eq (pow-add 2 23 k)))))
    ]
on_grid k nan t p = elim p [ ]
on_grid k (inf _) t p = elim p [ ]
on_grid k (fin true m e) t p = elim p [ ]

-- ---- the squares: r * G is nearer than a Y above it, and than a Y below it
module _ (n r G N Y : ℕ) (p : 0 < G) (e : N ≡ n * (G * G)) (y : Grid G Y) (c : Closest n r) (low : 2 ^ 23 ≤ r) (least : 2 ^ 46 ≤ n) where
  above : r * G < Y → 4 * N < square (r * G + Y)
  above h =
      let g : suc r * G ≤ Y = elim y [
        | inl (d, z) ↦ rw z (mul-le-mul_right G (lt_of_mul-lt-mul_right G (rw z at h)))
        | inr z ↦ absurd
            (let q : 2 ^ 23 * G ≤ r * G = mul-le-mul_right G low in omega arith)
      ] in
      let s : suc (2 * r) * G * (suc (2 * r) * G) ≤ square (r * G + Y) = let b : suc (2 * r) * G ≤ r * G + Y = omega arith in mul-le-mul b b in
      let t : 4 * n * (G * G) < suc (2 * r) * suc (2 * r) * (G * G) = mul-lt-mul_of_pos_right (omega arith) (mul-pos p p) in
      omega arith

  -- a Y of a smaller power stands below 2 ^ 23 * G, which is r * G itself only where r * r is at most n
  below : Y < r * G → square (r * G + Y) < 4 * N
  below h = go r refl y
    where
      wide : (d : ℕ) → r ≡ suc d → Y ≤ d * G → square (r * G + Y) < 4 * N
      wide d z g =
          let b : r * G + Y ≤ suc (2 * d) * G = rw z (omega arith) in
          let s : square (r * G + Y) ≤ suc (2 * d) * G * (suc (2 * d) * G) = mul-le-mul b b in
          let l : suc d * suc d < n + suc d = rw z at c.0 in
          let t : suc (2 * d) * suc (2 * d) * (G * G) < 4 * n * (G * G) = mul-lt-mul_of_pos_right (omega arith) (mul-pos p p) in
          omega arith

      close : r ≡ 2 ^ 23 → square (r * G + Y) < 4 * N
      close z =
          let l : r * r ≤ n = rw z least in
          let b : suc (r * G + Y) ≤ r * G + r * G = omega arith in
          let s : suc (r * G + Y) * suc (r * G + Y) ≤ (r * G + r * G) * (r * G + r * G) = mul-le-mul b b in
          let t : r * r * (G * G) ≤ n * (G * G) = mul-le-mul_right (G * G) l in
          omega arith

      go : (a : ℕ) → r ≡ a → Grid G Y → square (r * G + Y) < 4 * N
      go zero z g = absurd (omega arith)
      go (suc d) z (inl (q, w)) = wide d z (rw w (mul-le-mul_right G (let l : q < suc d = lt_of_mul-lt-mul_right G (rw (w, z) at h) in omega arith)))
      go (suc d) z (inr w) = elim (eq-or-lt_of_le low) [
        | inl i ↦ close (sym i)
        | inr i ↦ wide d z (let l : 2 ^ 23 * G ≤ d * G = mul-le-mul_right G (omega arith) in omega arith)
      ]

pub near : (x r : Float) (k q n : ℕ) → grains x * 2 ^ 149 ≡ n * (2 ^ k * 2 ^ k) → 2 ^ 46 ≤ n → n ≤ 2 ^ 48 - 2 ^ 24 → Closest n q
    → grains r ≡ q * 2 ^ k → T (fits binary32 r) → T (natural r) → Nearest x r
near x r k q n e l h c g t u =
    let d = digits n q l h c in
    record {
      holds = t;
      number = u;
      above = λ y f i j. rw g (above n q (2 ^ k) _ (grains y) (pow_pos k) e (on_grid k y f i) c d.0 l (rw g at j));
      below = λ y f i j. rw g (below n q (2 ^ k) _ (grains y) (pow_pos k) e (on_grid k y f i) c d.0 l (rw g at j));
    }
