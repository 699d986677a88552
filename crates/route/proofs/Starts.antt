-- Where a leg starts, position and velocity of the sample are the leg's, as numbers: -0.0 and 0.0 are one there. Where it ends they need not be. Assumes nothing.
use Rattle.laws.proofs.Prelude.{◌≡◌, refl, sym, ap, ◌∙◌, Bool, true, false, ◌&&◌, List, ℕ, zero, suc, ◌*◌, zero-mul, zero-add, sub-zero, mul-one, one-mul, arith, lt-ltb, le-ltb, ne_eqb, mul-pos}
use Rattle.laws.proofs.Prelude.{lit<, lit≤}
use Rattle.laws.proofs.Prelude.{T, ℤ, pos, Float, nan, inf, fin, binary32, fits, up, down, round, sum, add, sub, mul, div, eq, lt, le, neg, of_bits, no, both}
use native.Mathlib.Nat.{sub_self}
use lib.Ieee.{Fits.{cond-fits, mul-fits, down_pos}, Bits.is_true}
use Rattle.relay_math.specs.{declared.Vec3.Vec3, F32.{◌⊕◌, ◌⊖◌, ◌⊗◌, f32, 0·0, 1e-3, 1·0, 2·0, 3·0, is_finite, finite_or, unsigned}}
use Rattle.relay_math.proofs.{Order.{eq_refl_of, finite_number, le_trans}, Signs.size_pos, Sums.{round_zero, round_own, zero_times}, Round.round_signed, FiniteOr.or_zero_finite}
use Rattle.relay_math.proofs.Zeros.{IsZero, none, plus, times as times_zero, finite as finite-zero}
use Rattle.relay_traj.specs.{declared.quintic.{Quintic.Quintic, Sample.Sample}, Quintic.{4·0, 5·0, mended_duration, mend_ends, of_mended, quintic, time_on, sample_at, eval}}
use Rattle.relay_traj.{specs.Segment.{segment, eval3}, proofs.Leg.mended_lasts}
use Rattle.words.{specs.Words.vec, proofs.WordsBack.float_fits}
use Rattle.joint_tick.{specs.{declared.state.Leg.Leg, SetUp.segment_of, Tick.sample_at3}, proofs.FractionAndSample.finite_time_as_it_is}
use Rattle.image.{specs.{Parts.leg_at, Fits.{F32, FitsVec, FitsQuintic}}, proofs.Fitting.quintic_fits}
use Rattle.route.specs.{declared.legs.Sampled.Sampled, Form.{leg_of, vecs_meet, legs_meet}, Legs.{sample_of, sample_on, end_of, FirstAbove, mended3}}
use Rattle.route.proofs.{LocalTime.past_all, LegWalks.third as all, LegFlown.{kept, end_unsigned, the_leg_flown}, Sizes.{divided, mended}}

-- ---- a zero and a number

own : (s : Bool) (m : ℕ) (e : ℤ) → F32 (fin s (suc m) e) → round binary32 s (suc m * up e) (down e) ≡ fin s (suc m) e
unfolding fits neg
own false m e f = round_own (suc m) e f
own true m e f = round_signed true (suc m * up e) (down e) ∙ ap neg (round_own (suc m) e f)

beside : (b s : Bool) (m : ℕ) (e : ℤ) → F32 (fin s (suc m) e) → fin b 0 (pos 0) ⊕ fin s (suc m) e ≡ fin s (suc m) e
unfolding add sum
beside true true m e f = simp (zero-mul, zero-add, mul-one, one-mul) (own true m e f)
beside false false m e f = simp (zero-mul, zero-add, mul-one, one-mul) (own false m e f)
beside true false m e f = simp (zero-mul, sub-zero, mul-one, one-mul, lt-ltb 0 (suc m * up e) (size_pos m e)) (own false m e f)
beside false true m e f = simp (zero-mul, sub-zero, mul-one, one-mul, lt-ltb 0 (suc m * up e) (size_pos m e)) (own true m e f)

alike : {x y : Float} → IsZero x → IsZero y → T (eq x y)
unfolding eq
alike (none true e) (none true d) = simp zero-mul tt
alike (none true e) (none false d) = simp zero-mul tt
alike (none false e) (none true d) = simp zero-mul tt
alike (none false e) (none false d) = simp zero-mul tt

of_zero : (s : Bool) (e : ℤ) (z : Float) → eq (fin s 0 e) z ≡ true → IsZero z
unfolding eq
of_zero s e nan h = no h
of_zero s e (inf t) h = no h
of_zero s e (fin t zero d) h = none t d
of_zero s e (fin t (suc n) d) h = no (rw (zero-mul (up e), zero-mul (down d), ne_eqb 0 (suc n * up d * down e) (λ q. omega (arith, q, mul-pos (size_pos n d) (down_pos e)))) at h)

-- what equals c equals y: c itself does, if it is a number
abbrev Stands : Float → Float → Type 0
Stands y c = (z : Float) → eq c z ≡ true → eq y z ≡ true

-- a Horner step at 0
step : (x c : Float) → T (is_finite x) → T (is_finite c) → F32 c → let y = x ⊗ 0·0 ⊕ c in Stands y c × T (is_finite y)
unfolding is_finite of_bits
step x (fin s zero e) p q f = let y = plus (times_zero x p (none false (pos 0))) (none s e) in (λ z h. is_true _ (alike y (of_zero s e z h)), finite-zero y)
step x (fin s (suc m) e) p q f = let z = zero_times x p in rw (z.1, beside z.0 s m e f) (λ z h. h, tt)
step x nan p q f = elim q [ ]
step x (inf _) p q f = elim q [ ]

-- ---- an axis

-- at 0 the position is c0 and the velocity c1, where no coefficient and no factor of the velocity overflows
at_zero : (q : Quintic) → FitsQuintic q → let ok : Float → Type 0 = λ x. T (is_finite x) in ok q.c5 × ok (5·0 ⊗ q.c5) → ok q.c4 × ok (4·0 ⊗ q.c4) → ok q.c3 × ok (3·0 ⊗ q.c3)
    → ok q.c2 × ok (2·0 ⊗ q.c2) → ok q.c1 → ok q.c0 → Stands (sample_at q 0·0).p q.c0 × Stands (sample_at q 0·0).v q.c1
unfolding sample_at
at_zero q f k5 k4 k3 k2 k1 k0 =
    let p4 = step q.c5 q.c4 k5.0 k4.0 f.1.0 in let p3 = step _ q.c3 p4.1 k3.0 f.1.1.0 in
    let p2 = step _ q.c2 p3.1 k2.0 f.1.1.1.0 in let p1 = step _ q.c1 p2.1 k1 f.1.1.1.1.0 in
    let v3 = step (5·0 ⊗ q.c5) (4·0 ⊗ q.c4) k5.1 k4.1 (mul-fits binary32 4·0 q.c4) in
    let v2 = step _ (3·0 ⊗ q.c3) v3.1 k3.1 (mul-fits binary32 3·0 q.c3) in let v1 = step _ (2·0 ⊗ q.c2) v2.1 k2.1 (mul-fits binary32 2·0 q.c2) in
    ((step _ q.c0 p1.1 k0 f.1.1.1.1.1.0).0, (step _ q.c1 v1.1 k1 f.1.1.1.1.0).0)

axis_starts : (p0 v0 a0 pf vf af t : Float) → F32 p0 → F32 v0 → F32 a0 → F32 t → let s = eval (quintic p0 v0 a0 pf vf af t) 0·0 in Stands s.p (finite_or p0 0·0) × Stands s.v (finite_or v0 0·0)
unfolding quintic mend_ends of_mended eval fits of_bits
axis_starts p0 v0 a0 pf vf af t f g h l =
    let d = mended_lasts t in
    let z : time_on 0·0 (mended_duration t) ≡ 0·0 = kept 0·0 (mended_duration t) d.0 (unfold le of_bits in tt, le_trans 0·0 1e-3 (mended_duration t) (unfold le of_bits in tt) d.1) in
    let r = at_zero (quintic p0 v0 a0 pf vf af t) (quintic_fits p0 v0 a0 pf vf af t f g h l)
    (mended 15 3 1 122 5 0 5 122 refl (lit< tt) tt (lit≤ tt) tt (lit≤ tt) _ (mul-fits binary32 _ _))
    (mended 3 3 1 124 1 2 1 126 refl (lit< tt) tt (lit≤ tt) tt (lit≤ tt) _ (mul-fits binary32 _ _))
    (mended 3 1 1 126 3 0 3 126 refl (lit< tt) tt (lit≤ tt) tt (lit≤ tt) _ (mul-fits binary32 _ _))
    (divided 1 1 16777215 103 1 1 16777215 104 refl (lit< tt) tt (lit≤ tt) tt (lit≤ tt) (finite_or a0 0·0) (cond-fits binary32 (is_finite a0) a0 0·0 h tt) (or_zero_finite a0))
    (or_zero_finite v0) (or_zero_finite p0) in
    rw z (r.0, r.1)

-- ---- the end is the leg's only as far as f32 goes: from rest to rest, from 0 to 1, in 2 s the sample ends there; in 5 s beyond it, and not at rest

abbrev lasting : Float → Sample
lasting t = eval (quintic 0·0 0·0 0·0 1·0 0·0 0·0 t) t

pub at_the_end : ((lasting 2·0).p ≡ 1·0) × ((lasting 2·0).v ≡ 0·0) × ((lasting 5·0).p ≡ f32 0x3f800001) × ((lasting 5·0).v ≡ f32 0x34c80000)
unfolding quintic eval is_finite of_bits add sub mul div neg lt eq
at_the_end = (refl, refl, refl, refl)

-- ---- a leg, and a leg of a route

abbrev Stands3 : Vec3 → Vec3 → Type 0
Stands3 v u = (w : Vec3) → vecs_meet u w ≡ true → vecs_meet v w ≡ true

all_stand : (v u : Vec3) → Stands v.0 u.0 → Stands v.1 u.1 → Stands v.2 u.2 → Stands3 v u
unfolding vecs_meet
all_stand v u f g h w e =
    let p = both (eq u.0 w.0 && eq u.1 w.1) (eq u.2 w.2) e in
    let q = both (eq u.0 w.0) (eq u.1 w.1) p.0 in
    all (f w.0 q.0) (g w.1 q.1) ∙ h w.2 p.1

leg_stands : (leg : Leg) → FitsVec leg.p0 → FitsVec leg.v0 → FitsVec leg.a0 → F32 leg.t
    → let s = sample_at3 (segment_of leg) 0·0 in Stands3 s.pos (mended3 leg.p0) × Stands3 s.vel (mended3 leg.v0)
unfolding segment_of segment eval3
leg_stands leg f g h l =
    let x = axis_starts leg.p0.0 leg.v0.0 leg.a0.0 leg.pf.0 leg.vf.0 leg.af.0 leg.t f.0 g.0 h.0 l in
    let y = axis_starts leg.p0.1 leg.v0.1 leg.a0.1 leg.pf.1 leg.vf.1 leg.af.1 leg.t f.1.0 g.1.0 h.1.0 l in
    let z = axis_starts leg.p0.2 leg.v0.2 leg.a0.2 leg.pf.2 leg.vf.2 leg.af.2 leg.t f.1.1.0 g.1.1.0 h.1.1.0 l in
    rw (finite_time_as_it_is (segment_of leg) 0·0 (unfold is_finite of_bits in refl)) (all_stand _ (mended3 leg.p0) x.0 y.0 z.0, all_stand _ (mended3 leg.v0) x.1 y.1 z.1)

itself : (v : Vec3) → vecs_meet (mended3 v) (mended3 v) ≡ true
unfolding vecs_meet
itself v = let one : (x : Float) → eq (finite_or x 0·0) (finite_or x 0·0) ≡ true = λ x. is_true _ (eq_refl_of _ (finite_number _ (or_zero_finite x))) in all (one v.0) (one v.1) ∙ one v.2

minus_itself : (x y : Float) → T (unsigned x) → lt x y ≡ true → x ⊖ x ≡ 0·0
unfolding sub neg add sum of_bits
minus_itself (inf false) y u h = no (sym (past_all y) ∙ h)
minus_itself (fin false m e) y u h = let a = m * up e * down e in rw (le-ltb a a (omega arith), sub_self a) (round_zero false (down e * down e))
minus_itself nan y u h = elim u [ ]
minus_itself (inf true) y u h = elim u [ ]
minus_itself (fin true m e) y u h = elim u [ ]

module _ (b : List ℕ) (n k : ℕ) (f : FirstAbove b n (end_of b k) k) where
  abbrev s : Sampled
  s = sample_on b n (end_of b k)

  stands : (s.leg ≡ k) × Stands3 s.sample.pos (mended3 (leg_of b k).p0) × Stands3 s.sample.vel (mended3 (leg_of b k).v0)
  unfolding sample_on sample_of leg_at vec
  stands =
      let l = leg_stands (leg_of b k) (search float_fits) (search float_fits) (search float_fits) (search float_fits) in
      rw (the_leg_flown b (end_of b k) n k f, minus_itself (end_of b k) (end_of b (suc k)) (end_unsigned b k) f.above) (refl, l.0, l.1)

  pub starts : (s.leg ≡ k) × (vecs_meet s.sample.pos (mended3 (leg_of b k).p0) ≡ true) × (vecs_meet s.sample.vel (mended3 (leg_of b k).v0) ≡ true)
  starts = (stands.0, stands.1 _ (itself (leg_of b k).p0), stands.2 _ (itself (leg_of b k).v0))

  -- so it is where the leg before ends that it meets, if that needs no mending
  pub ends : (before : Leg) → legs_meet before (leg_of b k) ≡ true → mended3 (leg_of b k).p0 ≡ (leg_of b k).p0 → mended3 (leg_of b k).v0 ≡ (leg_of b k).v0
      → (vecs_meet s.sample.pos before.pf ≡ true) × (vecs_meet s.sample.vel before.vf ≡ true)
  unfolding legs_meet
  ends before m p v =
      let x = vecs_meet (leg_of b k).p0 before.pf in let y = vecs_meet (leg_of b k).v0 before.vf in
      let q = both x y (both (x && y) (vecs_meet (leg_of b k).a0 before.af) m).0 in
      (stands.1 before.pf (ap (λ (u : Vec3). vecs_meet u before.pf) p ∙ q.0), stands.2 before.vf (ap (λ (u : Vec3). vecs_meet u before.vf) v ∙ q.1))
