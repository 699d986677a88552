-- The latch between the planner and the fallback, on margins alone. Definitions only.
use Rattle.std.specs.Prelude.{ℕ, ◌<◌, ◌≤◌, ◌≡◌, Bool, true, false, not, ◌||◌, cond, Float, get_or}
use mathlib.Core.List.{List, [], ◌∷◌, ◌++◌, Memᴰ}
use Rattle.std.specs.Float.{nan}
use Rattle.std.specs.Float.Ieee.{lt}
use Rattle.relay_math.specs.F32.{is_finite, finite_above}

-- the margin m gives control to the planner: it is finite and above exit
abbrev pub releases : Float → Float → Bool
releases exit m = finite_above exit m

-- the margin m gives it to the fallback: it is non-finite or below enter
abbrev pub engages : Float → Float → Bool
engages enter m = not (is_finite m) || lt m enter

-- ---- the latch as the Rust has it. A flag is true where the fallback has control.

-- the flag after the margin m, by the flag before
unfoldable pub latch : Float → Float → Bool → Float → Bool
latch enter exit engaged m = cond engaged (not (releases exit m)) (engages enter m)

-- after the last margin of a list
unfoldable pub after : Float → Float → Bool → List Float → Bool
after enter exit engaged [] = engaged
after enter exit engaged (m ∷ ms) = after enter exit (latch enter exit engaged m) ms

-- after each of them
unfoldable pub flags_from : Float → Float → Bool → List Float → List Bool
flags_from enter exit engaged [] = []
flags_from enter exit engaged (m ∷ ms) = let flag = latch enter exit engaged m in flag ∷ flags_from enter exit flag ms

-- the same of a fresh shield, which is engaged
abbrev pub engaged_after : Float → Float → List Float → Bool
engaged_after enter exit ms = after enter exit true ms

abbrev pub flags : Float → Float → List Float → List Bool
flags enter exit ms = flags_from enter exit true ms

-- ---- the user's rule, which knows no flag and looks back over the margins

-- At the end of the list: some margin of it, `margin`, is finite and above exit, and no later one is non-finite or below enter.
pub record Flies (enter exit : Float) (ms : List Float) : Type 0 where
  pub before : List Float
  pub margin : Float
  pub later : List Float
  pub split : ms ≡ before ++ (margin ∷ later)
  pub above : releases exit margin ≡ true
  pub calm : (m : Float) → Memᴰ m later → engages enter m ≡ false

-- At the place k, counted from 0: some margin, at a place i up to and including k, is finite and above exit, and none after it, up to and
-- including k, is non-finite or below enter. (Beyond the list's end `get_or` gives a NaN; k lies within it wherever this is used.)
pub record FliesAt (enter exit : Float) (ms : List Float) (k : ℕ) : Type 0 where
  pub i : ℕ
  pub reached : i ≤ k
  pub above : releases exit (get_or ms i nan) ≡ true
  pub calm : (j : ℕ) → i < j → j ≤ k → engages enter (get_or ms j nan) ≡ false
