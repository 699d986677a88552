-- The verdict at work, with thresholds 0.5 and 1: each line of the rule can make a record wrong. Assumes nothing.
use Rattle.laws.proofs.Prelude.{◌≡◌, refl, List, [], ◌∷◌, ◌++◌, ℕ, lt, of_bits, to_bits, replicate}
use Rattle.std.proofs.Common.{Some}
use Rattle.relay_math.specs.F32.{0·5, 1·0, is_finite}
use Rattle.words.specs.Words.{word, float, bytes_of}
use Rattle.joint_tick.specs.declared.profile.Profile.TheVariants.{Whole}
use Rattle.image.specs.Passed.{passed_on}
use Rattle.slow_shield.specs.Back.{look_back}
use Rattle.audit.specs.{Right.{passes, passes_third, planners, finite_on, finites, right, right_at}, Verdict.{Verdict, verdict_from, verdict_of}}

-- a record by its first agile word, its first command word, its flag and its margin; every other word is 0
abbrev kept : ℕ → ℕ → ℕ → ℕ → List ℕ
kept agile command flag margin = bytes_of (replicate 11 0 ++ agile ∷ replicate 8 0 ++ command ∷ 0 ∷ 0 ∷ flag ∷ 0 ∷ 0 ∷ margin ∷ [])

abbrev verdict : List (List ℕ) → Verdict
verdict rs = verdict_of Whole 0·5 1·0 rs

-- 1.5 releases, 0.75 within the band keeps the planner, so that its flag of 1 is wrong
pub band_keeps : verdict (kept 0 0 0 0x3fc0_0000 ∷ kept 0 0 0 0x3f40_0000 ∷ kept 0 0 1 0x3f40_0000 ∷ []) ≡ Some 2
unfolding verdict_from right_at right planners passes passes_third finites finite_on passed_on look_back word float is_finite lt of_bits to_bits
band_keeps = refl

-- 0.75 first: the shield is fresh, so the fallback has control, whatever the record's own flag
pub fresh_first : verdict (kept 0 0 0 0x3f40_0000 ∷ []) ≡ Some 0
unfolding verdict_from right_at right planners passes passes_third finites finite_on passed_on look_back word float is_finite lt of_bits to_bits
fresh_first = refl

-- a flag of 2 is wrong where 1 is demanded
pub two_is_wrong : verdict (kept 0 0 2 0x3e80_0000 ∷ []) ≡ Some 0
unfolding verdict_from right_at right planners passes passes_third finites finite_on passed_on look_back word float is_finite lt of_bits to_bits
two_is_wrong = refl

-- -0.0 is passed on as it stands, and a NaN as 0
pub minus_zero_passed_on : verdict (kept 0x8000_0000 0x8000_0000 0 0x3fc0_0000 ∷ kept 0x7fc0_0001 0 0 0x3fc0_0000 ∷ kept 0x8000_0000 0 0 0x3fc0_0000 ∷ []) ≡ Some 2
unfolding verdict_from right_at right planners passes passes_third finites finite_on passed_on look_back word float is_finite lt of_bits to_bits
minus_zero_passed_on = refl

-- the fallback's words may be any finite ones, and no others
pub fallback_finite : verdict (kept 0 0x4000_0000 1 0x3e80_0000 ∷ kept 0 0x7f80_0000 1 0x3e80_0000 ∷ []) ≡ Some 1
unfolding verdict_from right_at right planners passes passes_third finites finite_on passed_on look_back word float is_finite lt of_bits to_bits
fallback_finite = refl
