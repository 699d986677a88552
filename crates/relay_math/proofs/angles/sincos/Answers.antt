-- `angles::sincos`: each arm is a case of the definition. Assumes nothing.
use Rattle.laws.proofs.Prelude.{refl, sym, ◌∙◌, true, false, of_bits, held}
use Rattle.relay_math.proofs.Arms.{arm, sized}
use Rattle.relay_math.proofs.angles.sincos.Goals as goal

pub large_of-requires : goal.large_of-requires
unfolding of_bits
large_of-requires c = let d = c.before.before in let p = sized _ _ _ (held d.well_formed.0.1) d.signed_of-a.ensures d.served.ensures c.if-served.true c.if-a.true in record { from_tiny = p.0; to_most = p.1 }

pub returns-then-a : goal.returns-then-a
unfolding of_bits
returns-then-a c = let d = c.before.before.before in c.large_of.ensures ∙ sym (arm _ _ _ (held d.well_formed.0.1) d.signed_of-a.ensures d.served.ensures true true c.if-served.true c.if-a.true)

pub returns-else-a : goal.returns-else-a
unfolding of_bits
returns-else-a c = let d = c.before.before in sym (arm _ _ _ (held d.well_formed.0.1) d.signed_of-a.ensures d.served.ensures true false c.if-served.true c.if-a.false)

pub returns-else-served : goal.returns-else-served
unfolding of_bits
returns-else-served c = let d = c.before in sym (arm _ _ _ (held d.well_formed.0.1) d.signed_of-a.ensures d.served.ensures false _ c.if-served.false refl)
