-- `audit::check_into`: refused as it stands, or the verdict by the mended thresholds. Assumes nothing.
use Rattle.laws.proofs.Prelude.{eq-eqb, ne_eqb, sym, ◌∙◌, held}
use Rattle.words.proofs.Written.{whole}
use Rattle.audit.specs.Entry.{check_call}
use Rattle.audit.proofs.VerdictCall.{mended, finished}
use Rattle.audit.proofs.check_into.Goals as goal

pub returns-then-into-ne4 : goal.returns-then-into-ne4
unfolding check_call
returns-then-into-ne4 c = simp (ne_eqb _ _ c.if-into-ne4.true)

pub returns-then-not-is_log : goal.returns-then-not-is_log
unfolding check_call
returns-then-not-is_log c = simp (← c.is_log.ensures, c.if-not-is_log.true, eq-eqb _ _ c.if-into-ne4.false)

pub returns-then-not-is_profile : goal.returns-then-not-is_profile
unfolding check_call
returns-then-not-is_profile c = simp (← c.is_profile.ensures, c.if-not-is_profile.true, ← c.is_log.ensures, c.if-not-is_log.false, eq-eqb _ _ c.if-into-ne4.false)

pub judged-v-requires : goal.judged-v-requires
judged-v-requires c = (sym c.is_log.ensures ∙ c.if-not-is_log.false, mended _ _ (held c.well_formed.1.1.0.1) c.mend-t.ensures)

pub returns : goal.returns
returns c =
    finished _ _ _ _ _ c.if-into-ne4.false (sym c.is_log.ensures ∙ c.if-not-is_log.false) (sym c.is_profile.ensures ∙ c.if-not-is_profile.false)
    c.mend-t.ensures c.profile_of.ensures c.judged-v.ensures c.verdict_word.ensures (whole c.put_word.ensures c.if-into-ne4.false)
