-- What the walk over a pattern's bytes finds: how many legs are flown, up to 33, and the places at which they stand. Definitions only.
use Rattle.std.specs.Prelude.{ℕ, suc, ◌+◌, ◌-◌, ◌*◌, ◌≤◌, ◌<◌, ◌≡◌, cond, Option, Some, None, List, map, ltb, length, get_or, set, take, drop}
use Rattle.std.proofs.lemmas.List.Edits.{sets}
use Rattle.std.proofs.Math.Seq.{slice}
use Rattle.image.specs.Layout.{leg_bytes}
use Rattle.route.specs.Form.{most_legs}
use Rattle.pattern.specs.declared.walk.Past.{Past}
use Rattle.pattern.specs.Tree.{Pattern, times, flown_legs}
use Rattle.pattern.specs.Read.{Read, broken, is}

-- the leg that stands at a place
abbrev pub leg_in : List ℕ → ℕ → List ℕ
leg_in b place = take leg_bytes (drop place b)

-- 33 stands for every number above 32
unfoldable pub capped : ℕ → ℕ
capped n = cond (ltb most_legs n) (suc most_legs) n

-- the legs ls were found, after n others: their places stand in the list from number n on
pub record Found (b : List ℕ) (ls : List (List ℕ)) (n : ℕ) (old new : List ℕ) : Type 0 where
  pub places : List ℕ
  pub legs : map (leg_in b) places ≡ ls
  pub put : new ≡ sets old n places

-- how far the walk came, and how many legs it has found
abbrev pub past : ℕ → ℕ → Option Past
past next legs = Some record { next = next; legs = legs }

unfoldable pub walked_to : ℕ → ℕ → Read → Option Past
unfolding capped
walked_to next n broken = None
walked_to next n (is p) = past next (capped (n + length (flown_legs p)))

-- a walk over what was read, up to a place, after n legs
pub record Walk (b : List ℕ) (r : Read) (next n : ℕ) (old : List ℕ) (answer : Option Past) (new : List ℕ) : Type 0 where
  pub counted : answer ≡ walked_to next n r
  pub found : (p : Pattern) → r ≡ is p → n + length (flown_legs p) ≤ most_legs → Found b (flown_legs p) n old new

-- one place more, where there is room
pub record OneMore (n place : ℕ) (old : List ℕ) (r : ℕ) (new : List ℕ) : Type 0 where
  pub counted : r ≡ capped (n + 1)
  pub put : n < most_legs → new ≡ set old n place

-- the places from number n up to number m once for each round, where there is room
pub record Rounds (rounds n m : ℕ) (old : List ℕ) (r : ℕ) (new : List ℕ) : Type 0 where
  pub counted : r ≡ capped (n + rounds * (m - n))
  pub put : n + rounds * (m - n) ≤ most_legs → new ≡ sets old n (times rounds (slice n m old))

-- the places are places of legs
pub record Places (b places : List ℕ) : Type 0 where
  pub fits : (i : ℕ) → i < length places → get_or places i 0 + leg_bytes ≤ length b
