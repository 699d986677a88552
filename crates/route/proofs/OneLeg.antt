-- A route of one leg asks what the leg's segment does, at every time that a governor can have. Assumes nothing.
use Rattle.laws.proofs.Prelude.{◌≡◌, refl, sym, ap, ◌∙◌, subst, inl, inr, Bool, true, false, cond, List, ℕ, zero, suc, ◌*◌, ◌≤◌, zero-mul, arith, leb→le, T, ℤ, Float, nan, inf, fin}
use Rattle.laws.proofs.Prelude.{binary32, fits, is_nan, up, down, lt, le, eq, of_bits, sub, neg, add, sum, no}
use lib.Ieee.{Fits.down_pos, Scale.round_same}
use Rattle.relay_math.specs.F32.{◌⊖◌, 0·0, 1e-3, ∞, is_finite}
use Rattle.relay_math.proofs.{Order.{le_trans, le_of_not_lt, le_refl_of, lt_irrefl, finite_number, not_lt_of_le}, Signs.{le_is, zero_is, is_below}, Sums.{zero_adds_nothing, round_zero, round_own}}
use Rattle.relay_traj.specs.{declared.segment.Segment3.Segment3, Governor.Running, Quintic.{Lasts, mended_duration, mend_ends, of_mended, quintic, time_on, eval}, Segment.{segment, eval3}}
use Rattle.joint_tick.specs.{declared.state.Leg.Leg, SetUp.segment_of, Tick.{sample_time, sample_at3, reference_in, reference_at}}
use Rattle.route.specs.{Form.{leg_of, leg_count}, Legs.{duration_of, sample_of, sample_on, reference_on, end_of, FirstAbove, PastAll}, Entry.on_route}
use Rattle.route.proofs.{LocalTime.lasts_plus, LegFlown.{duration_lasts, duration_fits, first_end, the_leg_flown, past_all_ends, above_or_past, kept}}

-- ---- a time less nothing

minus_nothing : (x : Float) → T (fits binary32 x) → T (le 0·0 x) → x ⊖ 0·0 ≡ x
unfolding sub neg of_bits
minus_nothing nan f p = absurd (unfold le in p)
minus_nothing (inf s) f p = unfold add in refl
minus_nothing (fin false m e) f p = zero_adds_nothing (fin false m e) true f tt
minus_nothing (fin true zero e) f p = unfold add sum in simp zero-mul (round_zero true (down e * 1) ∙ sym (zero_is true e f))
minus_nothing (fin true (suc m) e) f p = no (sym (not_lt_of_le (fin true (suc m) e) 0·0 p) ∙ is_below m e true)

-- ---- f32 values that are not above each other are one

same_number : (m : ℕ) (e : ℤ) (n : ℕ) (d : ℤ) → let x = fin false m e in let y = fin false n d in T (fits binary32 x) → T (fits binary32 y) → T (le x y) → T (le y x) → x ≡ y
same_number m e n d f g p q =
    let a : m * up e * down d ≤ n * up d * down e = leb→le _ _ (subst T (le_is m e n d) p) in
    let b : n * up d * down e ≤ m * up e * down d = leb→le _ _ (subst T (le_is n d m e) q) in
    sym (round_own m e f) ∙ round_same binary32 false (m * up e) (down e) (n * up d) (down d) (down_pos e) (down_pos d) (omega (arith, a, b)) ∙ round_own n d g

-- ---- from the end on, every time is the end

end_kept : (d : Float) → Lasts d → time_on d d ≡ d
end_kept d l = kept d d l.0 (le_trans 0·0 1e-3 d (unfold le of_bits in tt) l.1, le_refl_of d (finite_number d l.0))

one : (s : Bool) (m : ℕ) (e : ℤ) (d : Float) → let x = fin s m e in T (fits binary32 x) → T (fits binary32 d) → Lasts d → T (le d x) → T (le x d) → x ≡ d
unfolding is_finite
one s m e nan f g l p q = absurd l.0
one s m e (inf t) f g l p q = absurd l.0
one s m e (fin true n c) f g l p q = absurd (lasts_plus n c l.1)
one true m e (fin false n c) f g l p q = absurd (lasts_plus m e (le_trans 1e-3 (fin false n c) (fin true m e) l.1 p))
one false m e (fin false n c) f g l p q = same_number m e n c f g q p

by_end : (s : Bool) (m : ℕ) (e : ℤ) (d : Float) → let x = fin s m e in T (fits binary32 x) → T (le 0·0 x) → T (fits binary32 d) → Lasts d → lt x d ≡ false
    → (b : Bool) → lt d x ≡ b → time_on x d ≡ d
unfolding is_finite is_nan
by_end s m e d f p g l h true q = unfold time_on in rw (not_lt_of_le (fin s m e) 0·0 p, q)
by_end s m e d f p g l h false q =
    let n = finite_number d l.0 in let w = le_of_not_lt d (fin s m e) n tt q in
    kept (fin s m e) d l.0 (p, w) ∙ one s m e d f g l (le_of_not_lt (fin s m e) d tt n h) w

from_the_end : (x d : Float) → T (fits binary32 x) → T (le 0·0 x) → T (fits binary32 d) → Lasts d → lt x d ≡ false → time_on (cond (eq x ∞) d x) d ≡ d
unfolding eq of_bits
from_the_end nan d f p g l h = absurd (unfold le in p)
from_the_end (inf true) d f p g l h = absurd (unfold le in p)
from_the_end (inf false) d f p g l h = end_kept d l
from_the_end (fin s m e) d f p g l h = by_end s m e d f p g l h (lt d (fin s m e)) refl

same_eval : (g : Segment3) (d x y : Float) → g.0.t_end ≡ d → g.1.t_end ≡ d → g.2.t_end ≡ d → time_on x d ≡ time_on y d → eval3 g x ≡ eval3 g y
unfolding eval3 eval
same_eval g d x y p q r e = rw (p, q, r, e)

late : (g : Segment3) (d x : Float) → g.0.t_end ≡ d → g.1.t_end ≡ d → g.2.t_end ≡ d → Lasts d → time_on (cond (eq x ∞) d x) d ≡ d → sample_at3 g x ≡ eval3 g d
late g d x p q r l h = same_eval g d (sample_time g x) d p q r (rw p (h ∙ sym (end_kept d l)))

-- ---- the segment's reference is the route's

ends : (leg : Leg) → let g = segment_of leg in let d = mended_duration leg.t in (g.0.t_end ≡ d) × (g.1.t_end ≡ d) × (g.2.t_end ≡ d)
unfolding segment_of segment quintic mend_ends of_mended
ends leg = (refl, refl, refl)

module _ (b : List ℕ) (time : Float) (r : Running time) where
  before_end : (k : ℕ) → FirstAbove b 1 time k → reference_on b 1 time ≡ reference_at (segment_of (leg_of b 0)) time
  unfolding reference_on sample_on sample_of reference_at end_of
  before_end zero f = rw (the_leg_flown b time 1 0 f, minus_nothing time r.holds r.from_zero)
  before_end (suc k) f = absurd (omega (arith, f.within))

  past_end : PastAll b 1 time → reference_on b 1 time ≡ reference_at (segment_of (leg_of b 0)) time
  unfolding reference_on sample_on sample_of reference_at duration_of
  past_end p =
      let d = duration_of b 0 in let l = duration_lasts b 0 in let g = duration_fits b 0 in let e = ends (leg_of b 0) in
      let at = late (segment_of (leg_of b 0)) d in
      let a = at d e.0 e.1 e.2 l (from_the_end d d g (le_trans 0·0 1e-3 d (unfold le of_bits in tt) l.1) g l (lt_irrefl d)) in
      let z = at time e.0 e.1 e.2 l (from_the_end time d r.holds r.from_zero g l (rw (← first_end b) (p.none 0 (omega arith)))) in
      rw (past_all_ends b time 1 p) (ap reference_in (a ∙ sym z))

  pub one_leg : leg_count b ≡ 1 → on_route b time ≡ reference_at (segment_of (leg_of b 0)) time
  unfolding on_route
  one_leg e = ap (λ (n : ℕ). reference_on b n time) e ∙ elim (above_or_past b time 1) [ inl f ↦ before_end f.0 f.1 | inr p ↦ past_end p ]
