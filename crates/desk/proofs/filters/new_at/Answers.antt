use Rattle.desk.specs.Filters.{new_at}
use Rattle.desk.proofs.filters.new_at.Goals as goal

pub returns : goal.returns
unfolding new_at
returns c = simp (c.new.ensures, c.float_at-3.ensures, c.float_at-2.ensures, c.float_at.ensures)
