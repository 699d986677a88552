use Rattle.laws.proofs.Prelude.{refl}
use Rattle.words.proofs.Written.{then}
use Rattle.desk.specs.Entry.{with_heading}
use Rattle.desk.proofs.entry.put_heading.Goals as goal

pub returns : goal.returns
unfolding with_heading
returns c = (then c.put_float.ensures c.put_float-2.ensures refl).is
