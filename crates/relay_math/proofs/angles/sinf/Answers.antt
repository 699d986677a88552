-- `angles::sinf`: each arm is a case of the definition, which meets document 01's rule. Assumes nothing.
use Rattle.laws.proofs.Prelude.{refl, ◌∙◌, true, false, of_bits, held}
use Rattle.relay_math.specs.Steps.{large}
use Rattle.relay_math.proofs.Arms.{arm, sized, one, is_sine}
use Rattle.relay_math.proofs.angles.sinf.Goals as goal

pub fixed_of-requires : goal.fixed_of-requires
unfolding of_bits large
fixed_of-requires c = let d = c.before.before in let p = sized _ _ _ (held d.well_formed.0.1) d.signed_of-a.ensures d.served.ensures c.if-served.true c.if-a.true in record { from_tiny = p.0; to_most = p.1 }

pub returns-then-a : goal.returns-then-a
unfolding of_bits large
returns-then-a c = let e = c.before.before.before in let b = e.before.before in let d = b.before.before in let f = held d.well_formed.0.1 in let p = is_sine _ _ _ f (arm _ _ _ f d.signed_of-a.ensures d.served.ensures true true b.if-served.true b.if-a.true) (c.turned_of.ensures ∙ simp (c.either_poly-v.ensures.is, one, e.reduce-d.ensures.is, e.fixed_of.ensures.is)) in record { near = p.0; is = p.1 }

pub returns-else-a : goal.returns-else-a
unfolding of_bits large
returns-else-a c = let d = c.before.before in let f = held d.well_formed.0.1 in let p = is_sine _ _ _ f (arm _ _ _ f d.signed_of-a.ensures d.served.ensures true false c.if-served.true c.if-a.false) refl in record { near = p.0; is = p.1 }

pub returns-else-served : goal.returns-else-served
unfolding of_bits large
returns-else-served c = let d = c.before in let f = held d.well_formed.0.1 in let p = is_sine _ _ _ f (arm _ _ _ f d.signed_of-a.ensures d.served.ensures false _ c.if-served.false refl) refl in record { near = p.0; is = p.1 }
