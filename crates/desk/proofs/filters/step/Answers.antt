use Rattle.desk.specs.Filters.{desk_step}
use Rattle.desk.proofs.filters.step.Goals as goal

pub returns : goal.returns
unfolding desk_step
returns c = simp (c.step-3.ensures, c.step-2.ensures, c.step.ensures)
