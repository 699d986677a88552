-- `audit::passed_on`: a word of 32 bits that is finite is its number's word. Assumes nothing.
use Rattle.laws.proofs.Prelude.{sym, ◌∙◌}
use Rattle.image.proofs.Passed.{finite_itself, other_zero}
use Rattle.audit.proofs.passed_on.Goals as goal

pub returns-then-is_finite : goal.returns-then-is_finite
returns-then-is_finite c = sym (finite_itself _ c.well_formed.0.1 c.float_of.ensures (sym c.is_finite.ensures ∙ c.if-is_finite.true))

pub returns-else-is_finite : goal.returns-else-is_finite
returns-else-is_finite c = sym (other_zero _ c.float_of.ensures (sym c.is_finite.ensures ∙ c.if-is_finite.false))
