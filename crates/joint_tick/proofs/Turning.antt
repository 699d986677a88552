-- Request Four, by the old rules: where nothing is commanded, the margin is document 01's, bit for bit. Assumes nothing.
use Rattle.std.specs.Prelude.{Some, None}
use Rattle.laws.proofs.Prelude.{◌≡◌, refl, ◌∙◌, ap, Bool, true, false, not, cond, ℕ, zero, suc, ◌*◌, ◌^◌, zero-mul, mul-one, add-zero, sub-zero, arith, le-ltb, lt-ltb, ℤ, pos, T, ltb, Float, nan, inf}
use Rattle.laws.proofs.Prelude.{fin, binary32, fits, up, down, odd, units, round, neg, sum, add, sub, mul, eq}
use lib.Ieee.{Bits.of_bits-fits, Fits.{cond-fits, neg-fits, add-fits, sub-fits}}
use Rattle.relay_math.{specs.{F32.{◌⊖◌, ◌⊗◌, 0·0}, declared.{Vec3.Vec3, BodyRate.BodyRate}}, proofs.{Signs.{zero_is, size_pos}, Sums.{round_zero, round_own}}}
use Rattle.relay_math.proofs.Zeros.{IsZero, none, is_zero, times, plus, minus}
use Rattle.relay_adrc.specs.{declared.biquad.Biquad.Biquad, Biquad.{biquad_filter, gyro_filter}}
use Rattle.relay_geo.specs.{declared.vectors.Mat3.Mat3, Vectors.{dot, transpose3, matmul3, Finite3}, Attitude.quat_to_rotmat}
use Rattle.joint_tick.specs.declared.{profile.Profile.TheVariants.Whole, state.{State.State, TickInput.TickInput}, stages.{Reference.Reference, Guided.Guided}}
use Rattle.joint_tick.specs.Tick.{prepare, desired_r, feedforward, commanded, rate_sq, margin_of, guide_whole, guide, ticked}
use Rattle.joint_tick.proofs.Shielding.{filtered, wanted_at, by_profile, tick_margin}

-- ---- a zero of either sign, taken off an f32, leaves its square: only a -0.0 may become +0.0

neg_odd : (d q k l : ℕ) → odd d true q k l ≡ neg (odd d false q k l)
unfolding odd neg
neg_odd d zero k l = refl
neg_odd d (suc q) k l = refl

neg_units : (q k : ℕ) → units binary32 true q k ≡ neg (units binary32 false q k)
unfolding units neg
neg_units q k = go (ltb (q * 2 ^ k) (2 ^ 277))
  where
    go : (b : Bool) → cond b (odd 25 true q k 149) (inf true) ≡ neg (cond b (odd 25 false q k 149) (inf false))
    go true = neg_odd 25 q k 149
    go false = refl

neg_round : (a c : ℕ) → round binary32 true a c ≡ neg (round binary32 false a c)
unfolding round
neg_round a c = simp neg_units

module _ (m : ℕ) (e : ℤ) where
  own : (s : Bool) → T (fits binary32 (fin s (suc m) e)) → round binary32 s (suc m * up e) (down e) ≡ fin s (suc m) e
  unfolding neg
  own true f = neg_round (suc m * up e) (down e) ∙ ap neg (round_own (suc m) e (neg-fits binary32 (fin true (suc m) e) f))
  own false f = round_own (suc m) e f

  plus_none : (s t : Bool) → sum binary32 s (suc m * up e * 1) t (0 * down e) (down e * 1) ≡ round binary32 s (suc m * up e) (down e)
  unfolding sum
  plus_none true true = simp (zero-mul, mul-one, add-zero)
  plus_none false false = simp (zero-mul, mul-one, add-zero)
  plus_none true false = rw (zero-mul (down e), mul-one (suc m * up e), mul-one (down e), le-ltb (suc m * up e) 0 (omega arith), lt-ltb 0 (suc m * up e) (size_pos m e), sub-zero (suc m * up e))
  plus_none false true = rw (zero-mul (down e), mul-one (suc m * up e), mul-one (down e), le-ltb (suc m * up e) 0 (omega arith), sub-zero (suc m * up e))

zero_square : {x : Float} → IsZero x → x ⊗ x ≡ fin false 0 (pos 0)
unfolding mul
zero_square (none true e) = simp zero-mul (round_zero false (down e * down e))
zero_square (none false e) = simp zero-mul (round_zero false (down e * down e))

less_none : (x : Float) (t : Bool) → T (fits binary32 x) → (x ⊖ fin t 0 (pos 0)) ⊗ (x ⊖ fin t 0 (pos 0)) ≡ x ⊗ x
unfolding sub add neg
less_none nan t f = refl
less_none (inf s) t f = refl
less_none (fin s zero e) t f = zero_square (minus (none s e) (none t (pos 0))) ∙ rw (zero_square (none s e))
less_none (fin s (suc m) e) t f = rw (plus_none m e s (not t), own m e s f)

less_zero : (x : Float) {z : Float} → T (fits binary32 x) → T (fits binary32 z) → IsZero z → (x ⊖ z) ⊗ (x ⊖ z) ≡ x ⊗ x
less_zero x f g (none t e) = rw (zero_is t e g) (less_none x t f)

-- ---- what a tick's margin is where nothing is commanded

abbrev pub Zeros3 : Vec3 → Type 0
Zeros3 v = T (eq v.0 0·0) × T (eq v.1 0·0) × T (eq v.2 0·0)

abbrev pub Entries : Mat3 → Type 0
Entries m = Finite3 m.0 × Finite3 m.1 × Finite3 m.2

dot_zero : (a v : Vec3) → Finite3 a → Zeros3 v → IsZero (dot a v)
unfolding dot
dot_zero a v f z = plus (plus (times a.0 f.x (is_zero v.0 z.0)) (times a.1 f.y (is_zero v.1 z.1))) (times a.2 f.z (is_zero v.2 z.2))

dot_fits : (a v : Vec3) → T (fits binary32 (dot a v))
unfolding dot
dot_fits a v = add-fits binary32 _ _

output_fits : (f : Biquad) (x : Float) → T (fits binary32 (biquad_filter f x).y)
unfolding biquad_filter
output_fits f x = search (cond-fits, sub-fits, of_bits-fits)

module _ (source : Float → Reference) (s : State) (i : TickInput) (p : s.fixed.profile ≡ Whole) where
  abbrev pub wanted : Reference
  wanted = wanted_at source s i

  -- document 01's margin: of the squared length of the filtered rate
  abbrev pub before : Float
  before = margin_of s.fixed.set (quat_to_rotmat i.quat) (desired_r wanted i) (rate_sq (filtered source s i))

  margin_is : (ticked source s i).answer.margin ≡ (guide_whole s.fixed.gains s.fixed.set (filtered source s i) wanted i).margin
  unfolding guide
  margin_is = tick_margin source s i ∙ ap (λ (g : Guided). g.margin) (by_profile source s i p)

  -- "where the feedforward refuses, the old rule holds"
  pub refused_as_before : feedforward wanted i ≡ None → (ticked source s i).answer.margin ≡ before
  unfolding guide_whole
  refused_as_before e = margin_is ∙ rw e

  -- and where it is three zeros, unless they meet what is not finite
  pub zeros_as_before : (rd : Mat3) (f : BodyRate) → desired_r wanted i ≡ Some rd → feedforward wanted i ≡ Some f → Zeros3 f.0 → Entries (matmul3 (transpose3 (quat_to_rotmat i.quat)) rd)
      → (ticked source s i).answer.margin ≡ before
  unfolding guide_whole commanded rate_sq dot prepare gyro_filter
  zeros_as_before rd f d a z n =
      let m = matmul3 (transpose3 (quat_to_rotmat i.quat)) rd in let l = s.moving.lpf in
      margin_is
      ∙ rw (d, a, less_zero _ (output_fits l.roll i.gyro.0.0) (dot_fits m.0 f.0) (dot_zero m.0 f.0 n.0 z))
      (rw (less_zero _ (output_fits l.pitch i.gyro.0.1) (dot_fits m.1 f.0) (dot_zero m.1 f.0 n.1 z))
      (rw (less_zero _ (output_fits l.yaw i.gyro.0.2) (dot_fits m.2 f.0) (dot_zero m.2 f.0 n.2 z))))
