-- What is said of ticks with a rotor lost. Definitions only.
use Rattle.std.specs.Prelude.{◌≡◌, false, ◌||◌, List, ℕ, eqb, length}
use Rattle.words.specs.Words.{word}
use Rattle.image.specs.Layout.{YAW, yaw_rate_word}

-- two tick inputs that differ in yaw and yaw rate alone, words 8 and 9
pub record ButHeading (a b : List ℕ) : Type 0 where
  pub lengths : length a ≡ length b
  pub words : (k : ℕ) → (eqb k YAW || eqb k yaw_rate_word) ≡ false → word a k ≡ word b k
