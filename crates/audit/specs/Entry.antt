-- The call on lent bytes. Definitions only.
use Rattle.std.specs.Prelude.{ℕ, not, List, [], ◌∷◌, Float, length}
use Rattle.words.specs.Words.{bytes_of}
use Rattle.relay_geo.specs.Shield.{mend_thresholds}
use Rattle.joint_tick.specs.Profile.{is_profile, profile_of}
use Rattle.outcome.specs.declared.Refusal.TheVariants.{InputLength, BrokenLog, BadProfile}
use Rattle.outcome.specs.Outcomes.{Table, first_of, differs, left_unless, Filled}
use Rattle.flight_log.specs.Form.{is_log}
use Rattle.flight_log.specs.Records.{records}
use Rattle.audit.specs.Verdict.{Verdict, verdict_from, verdict_of, verdict_word}

-- "enter and exit (mended as at set-up)"
unfoldable pub verdict_on : List ℕ → ℕ → Float → Float → Verdict
unfolding mend_thresholds verdict_from records
verdict_on log profile enter exit =
    let t = mend_thresholds enter exit in
    verdict_of (profile_of profile) t.enter t.exit (records log)

-- 2 for a verdict's buffer that is no word, as for a count's; "8 as in Two, then 10 for a profile not 0 or 1"
abbrev pub check_table : List ℕ → ℕ → ℕ → Table
check_table log profile verdictLen = (differs verdictLen 4, InputLength) ∷ (not (is_log log), BrokenLog) ∷ (not (is_profile profile), BadProfile) ∷ []

unfoldable pub check_call : List ℕ → ℕ → Float → Float → List ℕ → Filled
unfolding verdict_on
check_call log profile enter exit verdict = left_unless (first_of (check_table log profile (length verdict))) (bytes_of (verdict_word (verdict_on log profile enter exit) ∷ [])) verdict
