-- `slow_shield::flags_into`: refused as it stands, or every flag by the mended thresholds. Assumes nothing.
use Rattle.laws.proofs.Prelude.{lt-ltb, le-ltb, ne_eqb, held}
use Rattle.slow_shield.specs.Entry.{flags_call}
use Rattle.slow_shield.proofs.FlagsCall.{mended, finished}
use Rattle.slow_shield.proofs.flags_into.Goals as goal

pub returns-then-flags-gt-MOST_MARGINS : goal.returns-then-flags-gt-MOST_MARGINS
unfolding flags_call
returns-then-flags-gt-MOST_MARGINS c = simp (lt-ltb _ _ c.if-flags-gt-MOST_MARGINS.true)

pub returns-then-margins-flags : goal.returns-then-margins-flags
unfolding flags_call
returns-then-margins-flags c = simp (ne_eqb _ _ c.if-margins-flags.true, le-ltb _ _ c.if-flags-gt-MOST_MARGINS.false)

pub invariant_of-band : goal.invariant_of-band
invariant_of-band c = record { ordered = mended _ _ (held c.well_formed.1.0.1) c.mend-t.ensures }

pub returns : goal.returns
returns c = finished _ _ _ _ c.if-margins-flags.false c.if-flags-gt-MOST_MARGINS.false c.mend-t.ensures c.put_flags.ensures
