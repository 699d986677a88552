-- Only inner functions promise or ask these, for speed: whoever reads what is claimed need not read them. Definitions only.
use Rattle.std.specs.Prelude.{ℕ, zero, suc, ◌+◌, ◌*◌, ◌≤◌, Bool, true, not, ◌&&◌, ◌||◌, List, T, length}
use Rattle.std.specs.Float.Ieee.{is_nan}
use Rattle.words.specs.Words.{float_of, word}

-- a word that is no NaN's pattern
abbrev pub is_plain : ℕ → Bool
is_plain w = not (is_nan (float_of w))

-- the first n words of b are
abbrev pub all_plain : List ℕ → ℕ → Bool
all_plain b zero = true
all_plain b (suc n) = all_plain b n && is_plain (word b n)

-- where p says so, all words of b are; else nothing is said
abbrev pub Plain : Bool → List ℕ → Type 0
Plain p b = (k : ℕ) → 4 * k + 4 ≤ length b → T (not p || is_plain (word b k))
