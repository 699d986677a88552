-- Made canonical, the image is its own state's, and read as before. Assumes nothing.
use Rattle.image.proofs.Moved.{made_canonical}
use Rattle.image.proofs.image.put_next_state.Goals as goal

pub put_moved-requires : goal.put_moved-requires
put_moved-requires c = let t = made_canonical c.make_canonical.ensures c.requires.fact_3.0 c.requires.fact_3.1 in (t.0, t.1, t.2)

pub returns : goal.returns
returns c = rw (made_canonical c.make_canonical.ensures c.requires.fact_3.0 c.requires.fact_3.1).3 at c.put_moved.ensures
