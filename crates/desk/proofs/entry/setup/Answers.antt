-- `desk::entry::setup`: refused as it stands, or a fresh desk. Assumes nothing.
use Rattle.std.proofs.Common.{rules}
use Rattle.std.specs.Prelude.{Err}
use Rattle.laws.proofs.Prelude.{◌≡◌}
use Rattle.desk.specs.Entry.{desk_set_up_call}
use Rattle.desk.proofs.entry.setup.Goals as goal

pub returns-in_err-desk_lengths : goal.returns-in_err-desk_lengths
unfolding desk_set_up_call
returns-in_err-desk_lengths c =
    let handed : c.from_residual.result ≡ Err c.in_err-desk_lengths.field-0.0 = search rules in
    rw (handed, ← c.desk_lengths.ensures, c.in_err-desk_lengths.was)

pub returns : goal.returns
unfolding desk_set_up_call
returns c = rw (c.put_desk.ensures, c.set_up.ensures, ← c.desk_lengths.ensures, c.in_ok-desk_lengths.was)
