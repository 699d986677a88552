-- The slow shield over margins (request Nine of document 02): no flag is carried along. Definitions only.
use Rattle.std.specs.Prelude.{ℕ, zero, suc, Bool, true, false, ◌&&◌, cond, List, [], ◌∷◌, ◌++◌, Float, length, get_or}
use Rattle.std.specs.Float.{nan}
use Rattle.std.specs.Float.Ieee.{le}
use Rattle.latch.specs.Latch.{releases, engages}

-- "for each tick looks back through the list for a release with no later engagement": over the first k margins, the last of them first. The fallback
-- has control (true) where an engagement comes before any release, or the list's start does.
unfoldable pub look_back : Float → Float → List Float → ℕ → Bool
look_back enter exit ms zero = true
look_back enter exit ms (suc k) =
    let m = get_or ms k nan in
    cond (releases exit m) false (cond (engages enter m) true (look_back enter exit ms k))

-- the flags of the first k ticks, and of all
unfoldable pub flags_to : Float → Float → List Float → ℕ → List Bool
unfolding look_back
flags_to enter exit ms zero = []
flags_to enter exit ms (suc k) = flags_to enter exit ms k ++ (look_back enter exit ms (suc k) ∷ [])

abbrev pub slow_flags : Float → Float → List Float → List Bool
slow_flags enter exit ms = flags_to enter exit ms (length ms)

-- the margin lies in the band between the thresholds, each of them included
abbrev pub in_band : Float → Float → Float → Bool
in_band enter exit m = le enter m && le m exit
