-- A pattern (request Fourteen of document 02), its bytes, and its legs in flown order. Definitions only.
use Rattle.std.specs.Prelude.{ℕ, zero, suc, ◌/◌, ◌%◌, ◌≤◌, ◌≡◌, List, [], ◌∷◌, ◌++◌, length}
use Rattle.image.specs.Layout.{leg_bytes}

-- "A pattern is a list of items, perhaps empty; an item is a leg or a repeat of 1 to 9 that holds a pattern": nothing, or an item and the items after
-- it. A leg is its bytes.
pub data Pattern : Type 0 where
  nothing : Pattern
  leg : List ℕ → Pattern → Pattern
  repeat : ℕ → Pattern → Pattern → Pattern

-- "a tag byte, 0 for a leg and its 76 bytes, 1 for a repeat with a count byte and a two-byte little-endian length of its inner bytes"
unfoldable pub pattern_bytes : Pattern → List ℕ
pattern_bytes nothing = []
pattern_bytes (leg l more) = 0 ∷ l ++ pattern_bytes more
pattern_bytes (repeat n inner more) = 1 ∷ n ∷ length (pattern_bytes inner) % 256 ∷ length (pattern_bytes inner) / 256 ∷ pattern_bytes inner ++ pattern_bytes more

-- a list so many times, one after another
unfoldable pub times : {A : Type 0} → ℕ → List A → List A
times zero l = []
times (suc n) l = l ++ times n l

-- "the legs in flown order"
unfoldable pub flown_legs : Pattern → List (List ℕ)
unfolding times
flown_legs nothing = []
flown_legs (leg l more) = l ∷ flown_legs more
flown_legs (repeat n inner more) = times n (flown_legs inner) ++ flown_legs more

-- "repeats may stand inside repeats four deep": a pattern that has bytes, with repeats at most so deep
unfoldable pub WithinLimits : ℕ → Pattern → Type 0
unfolding pattern_bytes
WithinLimits depth nothing = Unit
WithinLimits depth (leg l more) = (length l ≡ leg_bytes) × WithinLimits depth more
WithinLimits zero (repeat n inner more) = ⊥
WithinLimits (suc depth) (repeat n inner more) = (1 ≤ n) × (n ≤ 9) × (length (pattern_bytes inner) ≤ 65535) × WithinLimits depth inner × WithinLimits (suc depth) more
