use Rattle.desk.specs.Filters.{desk_set_up}
use Rattle.desk.proofs.filters.set_up.Goals as goal

pub returns : goal.returns
unfolding desk_set_up
returns c = simp (c.new_at-3.ensures, c.new_at-2.ensures, c.new_at.ensures)
