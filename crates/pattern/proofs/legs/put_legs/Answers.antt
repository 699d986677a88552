-- `pattern::legs::put_legs`: after i turns the first i legs are written. Assumes nothing.
use Rattle.laws.proofs.Prelude.{refl, ◌∙◌, arith}
use Rattle.pattern.specs.Entry.{joined}
use Rattle.pattern.proofs.Found.{leg_long, put_one_more, all_put}
use Rattle.pattern.proofs.legs.put_legs.Goals as goal

pub loop-i-init : goal.loop-i-init
unfolding joined
loop-i-init c = refl

pub put_bytes-requires : goal.put_bytes-requires
put_bytes-requires c = let l = leg_long _ _ c.requires.places c.loop-i.i c.loop-i-test.true c.leg_in.ensures in omega (arith, l, c.requires.room)

pub loop-i-preserved : goal.loop-i-preserved
loop-i-preserved c = put_one_more _ _ c.requires.places _ _ c.loop-i-test.true c.leg_in.ensures c.put_bytes.ensures c.loop-i.invariant

pub returns : goal.returns
returns c = c.loop-i.invariant ∙ all_put _ _ c.requires.places _ _ c.loop-i-test.false
