-- `desk::entry::step_into`: the stepped desk, and the input that the core flies. Assumes nothing.
use Rattle.desk.specs.Entry.{moved, flown_input}
use Rattle.desk.proofs.entry.step_into.Goals as goal

pub returns : goal.returns
unfolding moved flown_input
returns c = (
  simp (c.step-moved.ensures, c.float_at.ensures, c.vec_at.ensures, c.desk_at.ensures),
  simp (c.put_heading.ensures, c.step-moved.ensures, c.float_at.ensures, c.vec_at.ensures, c.desk_at.ensures),
)
