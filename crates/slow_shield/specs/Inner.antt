-- Only inner functions promise this, for speed: whoever reads what is claimed need not read it. Definitions only.
use Rattle.std.specs.Prelude.{ℕ, ◌≤◌, ◌<◌, List}
use Rattle.words.specs.Words.{word}

-- the words number i to n - 1 of b lie between lo and hi
abbrev pub Between : List ℕ → ℕ → ℕ → ℕ → ℕ → Type 0
Between b lo hi i n = (j : ℕ) → i ≤ j → j < n → (lo ≤ word b j) × (word b j ≤ hi)
