-- The verdict on a list of records, and its number. Definitions only.
use Rattle.std.specs.Prelude.{ℕ, zero, suc, ◌<◌, ◌≡◌, true, false, cond, Option, Some, None, List, Float, length}
use Rattle.joint_tick.specs.declared.profile.Profile.{Profile}
use Rattle.audit.specs.Right.{right_at}

-- the place of the first wrong record, if there is one
abbrev pub Verdict : Type 0
Verdict = Option ℕ

-- of the n records from place i on
unfoldable pub verdict_from : Profile → Float → Float → List (List ℕ) → ℕ → ℕ → Verdict
unfolding right_at
verdict_from profile enter exit rs i zero = None
verdict_from profile enter exit rs i (suc n) = cond (right_at profile enter exit rs i) (verdict_from profile enter exit rs (suc i) n) (Some i)

-- "Answer yes exactly if all hold, else the first wrong record, counted from 0."
abbrev pub verdict_of : Profile → Float → Float → List (List ℕ) → Verdict
verdict_of profile enter exit rs = verdict_from profile enter exit rs 0 (length rs)

-- a log has at most 65,535 records, so that no place has the number of "all right"
abbrev pub verdict_word : Verdict → ℕ
verdict_word None = 0xffff_ffff
verdict_word (Some place) = place

-- ---- what a verdict says of a list of records, with no order of looking at them

abbrev pub Says : Profile → Float → Float → List (List ℕ) → Verdict → Type 0
Says profile enter exit rs None = (i : ℕ) → i < length rs → right_at profile enter exit rs i ≡ true
Says profile enter exit rs (Some k) = (k < length rs) × (right_at profile enter exit rs k ≡ false) × ((i : ℕ) → i < k → right_at profile enter exit rs i ≡ true)
