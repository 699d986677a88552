-- `slow_shield::Band::look_back`: what the first i margins say is what all say. Assumes nothing.
use Rattle.laws.proofs.Prelude.{sym, ap, ◌∙◌, not, arith}
use Rattle.slow_shield.proofs.Loops.{goes_on, decides, at_start}
use Rattle.slow_shield.proofs.Band.look_back.Goals as goal

pub returns-then-not-holds : goal.returns-then-not-holds
returns-then-not-holds c =
    ap not c.finite_above.ensures
    ∙ sym (decides _ _ c.args.self.ordered.0 c.requires.exit_value _ _ c.loop-i-test.true (omega arith) _ c.float_at-margin.ensures (sym c.holds.ensures ∙ c.if-not-holds.true)) ∙ c.loop-i.invariant

pub loop-i-preserved : goal.loop-i-preserved
loop-i-preserved c =
    goes_on _ _ c.args.self.ordered.0 c.requires.exit_value _ _ c.loop-i-test.true (omega arith) _ c.float_at-margin.ensures (sym c.holds.ensures ∙ c.if-not-holds.false) ∙ c.loop-i.invariant

pub returns : goal.returns
returns c = sym (at_start _ _ _ _ c.loop-i-test.false) ∙ c.loop-i.invariant
