use Rattle.std.proofs.Common.{length, ◌-◌}
use Rattle.replay.proofs.list.read_up_to.Given as goal

abbrev pub decreases-loop-done : goal.decreases-loop-done
decreases-loop-done g l = length l.initial.bytes - l.done
