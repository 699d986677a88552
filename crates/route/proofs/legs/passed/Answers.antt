-- `route::legs::passed`: what is found from leg i on, after the ends up to it, is what is found at all. Assumes nothing.
use Rattle.laws.proofs.Prelude.{refl, sym, ◌∙◌, sub-zero, arith}
use Rattle.route.specs.Legs.{leg_flown}
use Rattle.route.proofs.LegWalks.{flown_on, flown_here, flown_last}
use Rattle.route.proofs.legs.passed.Goals as goal

pub loop-i-init : goal.loop-i-init
unfolding leg_flown
loop-i-init c = rw sub-zero

pub returns-then-time-next : goal.returns-then-time-next
returns-then-time-next c =
    record {
      on = λ h. sym c.loop-i.invariant ∙ flown_here _ _ _ _ _ h c.duration_of.ensures c.if-time-next.true;
      past = λ h. absurd (omega (arith, h, c.loop-i-test.true));
    }

pub loop-i-preserved : goal.loop-i-preserved
loop-i-preserved c = flown_on _ _ _ _ _ c.loop-i-test.true c.duration_of.ensures c.if-time-next.false ∙ c.loop-i.invariant

pub returns : goal.returns
returns c =
    record {
      on = λ h. absurd (omega (arith, h));
      past = λ h. sym c.loop-i.invariant ∙ flown_last _ _ _ _ _ c.loop-i.auto.i-end c.loop-i-test.false refl;
    }
