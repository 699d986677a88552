use Rattle.laws.proofs.Prelude.{ap, ◌∙◌}
use Rattle.route.specs.Legs.{sample_on, reference_of, reference_on}
use Rattle.route.proofs.LegWalks.{of_the_found}
use Rattle.route.proofs.legs.reference_on.Goals as goal

pub returns-then-before-count : goal.returns-then-before-count
unfolding reference_of reference_on sample_on
returns-then-before-count c = of_the_found (reference_of _) c.reference_of.ensures (c.passed-before.ensures.on c.if-before-count.true)

pub returns : goal.returns
unfolding reference_of reference_on sample_on
returns c = of_the_found (reference_of _) (c.reference_of-2.ensures ∙ ap (reference_of _ _) c.duration_of.ensures) (c.passed-before.ensures.past c.if-before-count.false)
