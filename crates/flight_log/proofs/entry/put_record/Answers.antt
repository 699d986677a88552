-- `flight_log::entry::put_record`: the input, the answer and the trailer, one after another. Assumes nothing.
use Rattle.flight_log.proofs.LogForm.{recorded}
use Rattle.flight_log.proofs.entry.put_record.Goals as goal

pub returns : goal.returns
returns c = recorded _ _ _ _ c.requires.input_len c.put_bytes.ensures c.put_bytes-2.ensures c.put_trailer.ensures
