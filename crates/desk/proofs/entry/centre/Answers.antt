-- `desk::entry::centre`: refused as it stands, or the desk with its filters reset. Assumes nothing.
use Rattle.laws.proofs.Prelude.{eq-eqb, ne_eqb}
use Rattle.desk.specs.Entry.{centre_call}
use Rattle.desk.proofs.entry.centre.Goals as goal

pub returns-then-desk-ne-DESK_BYTES : goal.returns-then-desk-ne-DESK_BYTES
unfolding centre_call
returns-then-desk-ne-DESK_BYTES c = simp (ne_eqb _ _ c.if-desk-ne-DESK_BYTES.true)

pub returns : goal.returns
unfolding centre_call
returns c = simp (c.put_desk.ensures, c.centred.ensures, c.desk_at.ensures, eq-eqb _ _ c.if-desk-ne-DESK_BYTES.false)
