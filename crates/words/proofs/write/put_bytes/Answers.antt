-- `words::write::put_bytes`: after i bytes the first i are written, by sixteens, by fours and then one by one. Assumes nothing.
use Rattle.laws.proofs.Prelude.{refl, arith}
use Rattle.words.proofs.Standing.{four_stands}
use Rattle.words.proofs.Written.{one_more, run_more}
use Rattle.words.proofs.write.put_bytes.Goals as goal

pub loop-i-preserved : goal.loop-i-preserved
loop-i-preserved c = let at = c.loop-i in (omega arith, run_more _ _ _ _ 16 at.invariant.0 refl at.invariant.1 c.put_sixteen.ensures)

pub loop-i-2-preserved : goal.loop-i-2-preserved
loop-i-2-preserved c = let at = c.loop-i-2 in (omega arith, λ b e. run_more _ _ _ _ 4 at.invariant.0 (four_stands _ at.i (λ k. omega (arith, c.type_inv.from k)) (omega arith) c.four_bytes.ensures) (at.invariant.1 b e) c.put_four.ensures)

pub loop-j-preserved : goal.loop-j-preserved
loop-j-preserved c = λ b e. rw (c.loop-j.invariant b e) (one_more b _ _ c.loop-j.j c.loop-j-test.true)
