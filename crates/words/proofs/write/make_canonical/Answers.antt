-- `words::write::make_canonical`: plain words stand; else the first k are made after k rounds. Assumes nothing.
use Rattle.laws.proofs.Prelude.{◌≡◌, subst, Bool, add-one, arith}
use Rattle.words.specs.Words.{float}
use Rattle.words.specs.Inner.{Plain}
use Rattle.words.proofs.Written.{whole}
use Rattle.words.proofs.Standing.{all_stand, length_canons, one_more_canonical}
use Rattle.words.proofs.write.make_canonical.Goals as goal

pub returns-then-plain : goal.returns-then-plain
returns-then-plain c =
    let b = c.args.bytes.now in
    all_stand b _ (λ i. omega (arith, c.type_inv.bytes i)) (subst (λ (p : Bool). Plain p b) c.if-plain.true c.requires.fact_2) c.requires.fact_1

pub loop-k-preserved : goal.loop-k-preserved
unfolding float
loop-k-preserved c = let at = c.loop-k in rw (add-one at.k) (one_more_canonical at.k at.invariant (rw c.float_at.ensures at c.put_float.ensures))

pub returns : goal.returns
returns c =
    let at = c.loop-k in let e : at.k ≡ c.args.count = omega (arith, at.auto.k-end, c.loop-k-test.false) in
    whole (rw e at at.invariant) (omega (arith, c.requires.fact_1, length_canons c.args.bytes.now 0 c.args.count))
