-- `slow_shield::Band::passed_over`: what the first i margins say is what all say. Assumes nothing.
use Rattle.laws.proofs.Prelude.{ℕ, zero, suc, ◌+◌, ◌*◌, ◌-◌, ◌<◌, ◌≤◌, ◌≡◌, refl, sym, ◌∙◌, inl, inr, true, List, eq-or-lt_of_le, le_of_suc-le-suc, arith, T, Float, binary32, fits, length, held}
use Rattle.relay_math.specs.F32.{is_finite}
use Rattle.words.specs.Words.{word, float_of, float, bits}
use Rattle.slow_shield.specs.Back.{look_back}
use Rattle.slow_shield.specs.Entry.{margins_in}
use Rattle.slow_shield.specs.Inner.{Between}
use Rattle.slow_shield.proofs.Loops.{goes_on, at_start}
use Rattle.slow_shield.proofs.Words.{in_band_word}
use Rattle.slow_shield.proofs.Band.passed_over.Goals as goal

module _ (enter exit : Float) (p : is_finite enter ≡ true) (q : is_finite exit ≡ true) (f : T (fits binary32 enter)) (g : T (fits binary32 exit)) where
  module _ (lo hi : ℕ) (u : lo ≡ bits enter) (v : hi ≡ bits exit) (s : hi < 2139095040) (b : List ℕ) where
    one : (k i : ℕ) → i ≡ suc k → 4 * i ≤ length b → lo ≤ word b k → word b k ≤ hi → look_back enter exit (margins_in b) k ≡ look_back enter exit (margins_in b) i
    unfolding float
    one k i e l m n =
        let d : i - 1 ≡ k = omega arith in
        rw (← d) (goes_on enter exit p q b i (omega arith) l (float_of (word b k)) (rw d)
        (in_band_word enter exit f g (word b k) (omega (arith, u)) (omega (arith, v)) (omega (arith, v))))

    over : (i n : ℕ) → i ≤ n → 4 * n ≤ length b → Between b lo hi i n → look_back enter exit (margins_in b) i ≡ look_back enter exit (margins_in b) n
    over i zero h l m = let e : i ≡ 0 = omega arith in rw e
    over i (suc n) h l m = elim (eq-or-lt_of_le h) [
      | inl e ↦ rw e
      | inr j ↦
          let w = m n (le_of_suc-le-suc j) (omega arith) in
          over i n (le_of_suc-le-suc j) (omega arith) (λ x y z. m x y (omega arith)) ∙ one n (suc n) refl l w.0 w.1
    ]

pub loop-i-init : goal.loop-i-init
loop-i-init c =
    let e = c.blocks_passed_over-i.ensures in let fits = c.well_formed.0.1.1 in
    over _ _ c.args.self.ordered.0 c.requires.exit_value (held fits.0.1) (held fits.1.0.1) _ _ c.bits_of-lo.ensures c.bits_of-hi.ensures c.if-hi-ge2139095040.false _ _ _ e.0 c.requires.count_in_bounds e.1

pub loop-i-preserved : goal.loop-i-preserved
loop-i-preserved c =
    let w = c.outside.ensures c.if-outside.false in let fits = c.well_formed.0.1.1 in
    one _ _ c.args.self.ordered.0 c.requires.exit_value (held fits.0.1) (held fits.1.0.1) _ _ c.bits_of-lo.ensures c.bits_of-hi.ensures c.if-hi-ge2139095040.false _ _ _ (omega arith) (omega arith)
    (omega (arith, w.0)) (omega (arith, w.1))
    ∙ c.loop-i.invariant

pub returns-then-outside : goal.returns-then-outside
returns-then-outside c = let e : c.loop-i.i - 1 + 1 ≡ c.loop-i.i = omega arith in (omega arith, rw e c.loop-i.invariant)

pub returns : goal.returns
returns c = (omega arith, at_start _ _ _ 0 (omega arith) ∙ sym (at_start _ _ _ _ c.loop-i-test.false) ∙ c.loop-i.invariant)
