-- The shield's set-up: thresholds in order for every f32 given. Assumes nothing.
use Rattle.laws.proofs.Prelude.{ℕ, zero, suc, ◌*◌, ◌^◌, ◌<◌, ◌≤◌, ◌≡◌, refl, sym, ap, ◌∙◌, subst, inl, inr, Bool, true, false, cond, le_trans, le_of_eq, zero-lt-suc, mul-one, mul_assoc}
use Rattle.laws.proofs.Prelude.{mul_right_comm, mul-le-mul_right, le_of_mul-le-mul_right, mul-pos, pow-suc, arith, ltb-true, lt-ltb, ℤ, T, pow_pos, Float, nan, inf, fin, binary32, up, down, fits}
use Rattle.laws.proofs.Prelude.{round, mul, lt, le, of_bits, no, both, le_or_lt}
use mathlib.Core.Bool.{true≢false}
use lib.Ieee.{Fits.{up_pos, down_pos, cond-fits}, Exact.{HasValue, round_exact}, Order.round_mono}
use Rattle.relay_math.{specs.F32.{◌⊗◌, f32, 0·0, 0·1, 2·0, is_finite, finite_above}, proofs.Grains.{Placed, placed}}
use Rattle.relay_geo.specs.{declared.set.RecoverableSet.RecoverableSet, Shield.{mend_enter, mend_thresholds, new_shield}}

-- ---- twice an f32 that is finite and above zero lies above it: doubling is exact, or overflows to +infinity

times_two : (x u p d : ℕ) → x * u ≡ p * d → x * 2 * u ≡ p * 2 * (d * 1)
times_two x u p d h = let k : x * u * 2 ≡ p * d * 2 = ap (λ (z : ℕ). z * 2) h in omega arith

-- in units of 2 ^ -149, where m * 2 ^ e is m * 2 ^ j, twice that is m * 2 ^ (j + 1)
doubled : (m j : ℕ) (e : ℤ) → m * up e * 2 ^ 149 ≡ m * 2 ^ j * down e → m * up e * 2 * 2 ^ 149 ≡ m * 2 ^ suc j * (down e * 1)
doubled m j e h = times_two (m * up e) (2 ^ 149) (m * 2 ^ j) (down e) h ∙ ap (λ (x : ℕ). x * (down e * 1)) (mul_assoc m (2 ^ j) 2 ∙ ap (λ (x : ℕ). m * x) (sym (pow-suc 2 j)))

above_twice : (m : ℕ) (e : ℤ) (y : Float) → 0 < m → HasValue y false (m * up e * 2) (down e * 1) → lt (fin false m e) y ≡ true
unfolding lt
above_twice m e nan M v = absurd v
above_twice m e (inf s) M v = absurd v
above_twice m e (fin true n d) M v = absurd (true≢false v.0)
above_twice m e (fin false n d) M v =
    let p : 0 < m * up e * down d = mul-pos (mul-pos M (up_pos e)) (down_pos d) in
    let w : n * up d * down e ≡ m * up e * down d * 2 = ap (λ (x : ℕ). n * up d * x) (sym (mul-one (down e))) ∙ v.1 ∙ mul_right_comm (m * up e) 2 (down d) in
    lt-ltb (m * up e * down d) (n * up d * down e) (omega arith)

at_top : (y : Float) → T (le (inf false) y) → y ≡ inf false
unfolding le
at_top nan t = absurd t
at_top (inf true) t = absurd t
at_top (inf false) t = refl
at_top (fin s n d) t = absurd t

below_top : (m : ℕ) (e : ℤ) → lt (fin false m e) (inf false) ≡ true
unfolding lt
below_top m e = refl

top : round binary32 false (2 ^ 128) 1 ≡ inf false
unfolding round
top = refl

-- m * 2 ^ e doubled, where that overflows
overflows : (m j : ℕ) (e : ℤ) → m * up e * 2 ^ 149 ≡ m * 2 ^ j * down e → 2 ^ 277 ≤ m * 2 ^ suc j → round binary32 false (m * up e * 2) (down e * 1) ≡ inf false
overflows m j e h o =
    let D : 0 < down e * 1 = mul-pos (down_pos e) (pow_pos 0) in
    let c : 2 ^ 128 * (down e * 1) * 2 ^ 149 ≤ m * up e * 2 * 1 * 2 ^ 149 =
    le_trans (le_of_eq (mul_right_comm (2 ^ 128) (down e * 1) (2 ^ 149)))
    (le_trans (mul-le-mul_right (down e * 1) o) (le_of_eq (sym (doubled m j e h) ∙ ap (λ (x : ℕ). x * 2 ^ 149) (sym (mul-one (m * up e * 2)))))) in
    at_top _ (subst (λ (x : Float). T (le x (round binary32 false (m * up e * 2) (down e * 1)))) top
    (round_mono binary32 (2 ^ 128) 1 (m * up e * 2) (down e * 1) (pow_pos 0) D (le_of_mul-le-mul_right c (pow_pos 149))))

finite_doubled : (m : ℕ) (e : ℤ) → 0 < m → Placed m e → lt (fin false m e) (round binary32 false (m * up e * 2) (down e * 1)) ≡ true
finite_doubled m e M (j, s, h, u) = elim (le_or_lt (2 ^ 277) (m * 2 ^ suc j)) [
  | inl o ↦ rw (overflows m j e h o) (below_top m e)
  | inr l ↦ above_twice m e _ M (round_exact binary32 false (m * up e * 2) (down e * 1) m (suc j) (mul-pos (down_pos e) (pow_pos 0)) s l (doubled m j e h))
]

pub twice_above : (x : Float) → T (fits binary32 x) → finite_above 0·0 x ≡ true → lt x (x ⊗ 2·0) ≡ true
unfolding lt mul of_bits is_finite
twice_above nan f t = no t
twice_above (inf s) f t = no t
twice_above (fin true m e) f t = no t
twice_above (fin false zero e) f t = absurd (let l = ltb-true (0 * down e) (0 * up e * 1) t in omega arith)
twice_above (fin false (suc m) e) f t = finite_doubled (suc m) e (zero-lt-suc m) (placed false (suc m) e f)

-- ---- document 01: "enter is kept if finite and above 0, else 0.1; exit if finite and above enter, else twice enter (+infinity is possible ..)"

-- x where it passes the test p, else y: what both have, and the same once more
passes : (p q : Float → Bool) (x y : Float) → (p x ≡ true → q x ≡ true) → q y ≡ true → q (cond (p x) x y) ≡ true
passes p q x y h k = go (p x) refl
  where
    go : (b : Bool) → p x ≡ b → q (cond b x y) ≡ true
    go true e = h e
    go false e = k

settled : (p : Float → Bool) (x y : Float) → cond (p (cond (p x) x y)) (cond (p x) x y) y ≡ cond (p x) x y
settled p x y = go (p x) refl
  where
    either : (b : Bool) → cond b y y ≡ y
    either true = refl
    either false = refl

    go : (b : Bool) → p x ≡ b → cond (p (cond b x y)) (cond b x y) y ≡ cond b x y
    go true e = rw e
    go false e = either (p y)

fallback_enter : finite_above 0·0 0·1 ≡ true
unfolding is_finite lt of_bits
fallback_enter = refl

-- enter is finite and above 0, whatever was given
pub enter_finite_positive : (enter exit : Float) → finite_above 0·0 (mend_thresholds enter exit).enter ≡ true
unfolding mend_thresholds
enter_finite_positive enter exit = passes (finite_above 0·0) (finite_above 0·0) enter 0·1 (λ e. e) fallback_enter

enter_fits : (enter : Float) → T (fits binary32 enter) → T (fits binary32 (mend_enter enter))
unfolding fits of_bits
enter_fits enter f = cond-fits binary32 (finite_above 0·0 enter) enter 0·1 f tt

-- exit is above enter, for every f32 given as enter, subnormals and overflow to +infinity included
pub enter_below_exit : (enter exit : Float) → T (fits binary32 enter) → lt (mend_thresholds enter exit).enter (mend_thresholds enter exit).exit ≡ true
unfolding mend_thresholds
enter_below_exit enter exit f =
    let en : Float = mend_enter enter in
    passes (finite_above en) (lt en) exit (en ⊗ 2·0) (λ h. (both (is_finite exit) (lt en exit) h).1) (twice_above en (enter_fits enter f) (enter_finite_positive enter exit))

-- mending mended thresholds changes nothing
pub mend_idempotent : (enter exit : Float) → mend_thresholds (mend_thresholds enter exit).enter (mend_thresholds enter exit).exit ≡ mend_thresholds enter exit
unfolding mend_thresholds
mend_idempotent enter exit =
    let en : Float = mend_enter enter in
    rw (settled (finite_above 0·0) enter 0·1, settled (finite_above en) exit (en ⊗ 2·0))

-- "It starts engaged."
pub starts_engaged : (set : RecoverableSet) (enter exit : Float) → (new_shield set enter exit).engaged ≡ true
unfolding new_shield
starts_engaged set enter exit = refl

-- so a fresh shield meets what the latch's theorem asks
pub fresh_in_order : (set : RecoverableSet) (enter exit : Float) → T (fits binary32 enter) → lt (new_shield set enter exit).enter (new_shield set enter exit).exit ≡ true
unfolding new_shield
fresh_in_order set enter exit f = enter_below_exit enter exit f

-- the smallest enter, one that overflows, and infinities given
pub edges : (mend_thresholds (f32 1) nan ≡ record { enter = f32 1; exit = f32 2 })
    × (mend_thresholds (f32 0x7f00_0000) 0·0 ≡ record { enter = f32 0x7f00_0000; exit = inf false })
    × (mend_thresholds 2·0 (inf false) ≡ record { enter = 2·0; exit = f32 0x4080_0000 })
    × (mend_thresholds (inf false) 2·0 ≡ record { enter = 0·1; exit = 2·0 })
unfolding mend_thresholds is_finite lt mul of_bits
edges = (refl, refl, refl, refl)
