use Rattle.desk.specs.Filters.{stick_filter_at}
use Rattle.desk.proofs.filters.filter_at.Goals as goal

pub returns : goal.returns
unfolding stick_filter_at
returns c = simp (c.float_at-5.ensures, c.float_at-4.ensures, c.float_at-3.ensures, c.float_at-2.ensures, c.float_at.ensures)
