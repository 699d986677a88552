-- `slow_shield::put_flags`: after i turns the first i flags are written. Assumes nothing.
use Rattle.laws.proofs.Prelude.{refl, ◌∙◌}
use Rattle.slow_shield.specs.Back.{flags_to}
use Rattle.slow_shield.proofs.Loops.{byte_of, one_more, all_flags}
use Rattle.slow_shield.proofs.put_flags.Goals as goal

pub loop-i-init : goal.loop-i-init
unfolding flags_to
loop-i-init c = refl

pub loop-i-preserved : goal.loop-i-preserved
loop-i-preserved c = rw (c.loop-i.invariant, c.from.ensures, c.fallback_after.ensures, byte_of _) (one_more _ _ _ _ _)

pub returns : goal.returns
returns c = c.loop-i.invariant ∙ all_flags _ _ _ _ _ c.requires c.loop-i.auto.i-end c.loop-i-test.false
