use Rattle.laws.proofs.Prelude.{refl}
use Rattle.words.proofs.Written.{then, whole}
use Rattle.desk.specs.Filters.{desk_of}
use Rattle.desk.proofs.filters.put_desk.Goals as goal

pub returns : goal.returns
unfolding desk_of
returns c = whole (then (then c.put_filter.ensures c.put_filter-2.ensures refl) c.put_filter-3.ensures refl) c.requires
