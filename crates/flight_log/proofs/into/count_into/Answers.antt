use Rattle.std.proofs.Common.{arith}
use Rattle.std.proofs.lemmas.Grind.{common_steps}
use Rattle.words.proofs.Written.{whole}
use Rattle.flight_log.specs.Entry.{count_call}
use Rattle.flight_log.proofs.into.count_into.Goals as goal

pub returns : goal.returns
unfolding count_call
returns c = let written = whole c.put_word.ensures c.if-count-ne4.false in grind (arith, common_steps)
