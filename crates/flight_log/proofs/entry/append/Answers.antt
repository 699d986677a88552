-- `flight_log::entry::append`: what an append that is let through has, and what it leaves. Assumes nothing.
use Rattle.laws.proofs.Prelude.{sym, length-take-le}
use Rattle.flight_log.proofs.LogForm.{is_a_log, let_through, written}
use Rattle.flight_log.proofs.entry.append.Goals as goal

pub slice_bounds-record_count-end : goal.slice_bounds-record_count-end
slice_bounds-record_count-end c = (let_through c.append_refusal.ensures c.in_ok-append_refusal.was).within

pub slice_bounds-record_count-end-2 : goal.slice_bounds-record_count-end-2
slice_bounds-record_count-end-2 c = sym (length-take-le _ _ (let_through c.append_refusal.ensures c.in_ok-append_refusal.was).within)

pub record_count-count-requires : goal.record_count-count-requires
record_count-count-requires c = (is_a_log _ (let_through c.append_refusal.ensures c.in_ok-append_refusal.was).log).trailer

pub put_record-requires-clause-input_len : goal.put_record-requires-clause-input_len
put_record-requires-clause-input_len c = let t = let_through c.append_refusal.ensures c.in_ok-append_refusal.was in (t.input_length, t.answer_length)

pub put_record-requires-clause-count_in_bounds : goal.put_record-requires-clause-count_in_bounds
put_record-requires-clause-count_in_bounds c = let t = let_through c.append_refusal.ensures c.in_ok-append_refusal.was in rw c.record_count-count.ensures (t.room, t.one_more)

pub returns : goal.returns
returns c = written _ _ _ _ c.append_refusal.ensures c.in_ok-append_refusal.was c.record_count-count.ensures c.put_record.ensures
