use Rattle.laws.proofs.Prelude.{ap, ◌∙◌}
use Rattle.route.specs.Legs.{sample_of, sample_on}
use Rattle.route.proofs.LegWalks.{of_the_found}
use Rattle.route.proofs.legs.sample_on.Goals as goal

pub returns-then-before-count : goal.returns-then-before-count
unfolding sample_on
returns-then-before-count c = of_the_found (sample_of _) c.sample_of.ensures (c.passed-before.ensures.on c.if-before-count.true)

pub returns : goal.returns
unfolding sample_on
returns c = of_the_found (sample_of _) (c.sample_of-2.ensures ∙ ap (sample_of _ _) c.duration_of.ensures) (c.passed-before.ensures.past c.if-before-count.false)
