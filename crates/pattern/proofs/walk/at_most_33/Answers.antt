use Rattle.laws.proofs.Prelude.{lt-ltb, le-ltb}
use Rattle.pattern.specs.Walk.{capped}
use Rattle.pattern.proofs.walk.at_most_33.Goals as goal

pub returns-then-n-gt-MOST_LEGS : goal.returns-then-n-gt-MOST_LEGS
unfolding capped
returns-then-n-gt-MOST_LEGS c = simp (lt-ltb _ _ c.if-n-gt-MOST_LEGS.true)

pub returns-else-n-gt-MOST_LEGS : goal.returns-else-n-gt-MOST_LEGS
unfolding capped
returns-else-n-gt-MOST_LEGS c = simp (le-ltb _ _ c.if-n-gt-MOST_LEGS.false)
