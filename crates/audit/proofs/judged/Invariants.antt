use Rattle.laws.proofs.Prelude.{◌≡◌, ◌-◌, length}
use Rattle.std.specs.Iterator.Adapters.{enumerate_source, enumerate_count}
use Rattle.std.specs.Slice.Iter.{chunks_exact_rest, chunks_exact_size}
use Rattle.slow_shield.specs.Back.{look_back}
use Rattle.flight_log.specs.{Form.record_bytes, Records.records}
use Rattle.audit.specs.Right.{margins_in}
use Rattle.audit.specs.Verdict.{verdict_from, verdict_of}
use Rattle.audit.proofs.OneTurn.{from_record}
use Rattle.audit.proofs.judged.Given as goal

abbrev pub invariant-loop-i : goal.invariant-loop-i
invariant-loop-i l =
    let rs = records l.log in let left = enumerate_source l.i-iterator in let i = enumerate_count l.i-iterator in
    record {
      size : chunks_exact_size left ≡ record_bytes;
      rest : chunks_exact_rest left ≡ from_record l.log i;
      flag : l.engaged ≡ look_back l.enter l.exit (margins_in rs) i;
      verdict : verdict_from l.profile l.enter l.exit rs i (length rs - i) ≡ verdict_of l.profile l.enter l.exit rs;
    }
