-- `relay_math::fabsf`: what is not above zero is taken from zero, which drops its sign. Assumes nothing.
use Rattle.laws.proofs.Prelude.{◌≡◌, refl, sym, ◌∙◌, subst, true, false, cond, ℕ, zero, suc, ◌*◌, zero-mul, one-mul, mul-one, zero-add, T, ℤ, Float, nan, inf, fin, binary32, fits, up, down, lt, sub, of_bits, held, no}
use Rattle.relay_math.specs.F32.{◌⊖◌, 0·0, fabsf}
use Rattle.relay_math.proofs.Signs.{zero_is, is_above}
use Rattle.relay_math.proofs.Sums.{sum_is, round_own}
use Rattle.relay_math.proofs.fabsf.Goals as goal

less_minus : (m : ℕ) (e : ℤ) → T (fits binary32 (fin true m e)) → 0·0 ⊖ fin true m e ≡ fin false m e
unfolding sub of_bits fits
less_minus m e f =
    sum_is false (0 * down e) false (m * up e * 1) (1 * down e) (λ h. no h) (λ h. no h)
    ∙ rw (zero-mul (down e), zero-add (m * up e * 1), mul-one (m * up e), one-mul (down e)) (round_own m e f)

abbrev by_test : Float → Float
by_test x = cond (lt 0·0 x) x (0·0 ⊖ x)

by_test_lem : (x : Float) → T (fits binary32 x) → by_test x ≡ fabsf x
unfolding lt sub of_bits fabsf
by_test_lem nan f = refl
by_test_lem (inf true) f = refl
by_test_lem (inf false) f = refl
by_test_lem (fin true m e) f = less_minus m e f
by_test_lem (fin false zero e) f = subst (λ (x : Float). by_test x ≡ fabsf x) (sym (zero_is false e f)) refl
by_test_lem (fin false (suc m) e) f = rw (is_above m e false)

pub returns-then-x : goal.returns-then-x
returns-then-x c = simp c.if-x.true at (by_test_lem c.args.x (held c.well_formed.0.1))

pub returns-else-x : goal.returns-else-x
returns-else-x c = simp c.if-x.false at (by_test_lem c.args.x (held c.well_formed.0.1))
