use Rattle.desk.specs.Filters.{desk_at}
use Rattle.desk.proofs.filters.desk_at.Goals as goal

pub returns : goal.returns
unfolding desk_at
returns c = simp (c.filter_at-3.ensures, c.filter_at-2.ensures, c.filter_at.ensures)
