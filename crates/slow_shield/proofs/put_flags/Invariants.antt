use Rattle.laws.proofs.Prelude.{◌≡◌, map, sets}
use Rattle.words.specs.Words.{flag}
use Rattle.slow_shield.specs.Back.{flags_to}
use Rattle.slow_shield.specs.Entry.{margins_in}
use Rattle.slow_shield.proofs.put_flags.Given as goal

abbrev pub invariant-loop-i : goal.invariant-loop-i
invariant-loop-i l = l.flags ≡ sets l.initial.flags 0 (map flag (flags_to l.band.enter l.band.exit (margins_in l.margins) l.i))
