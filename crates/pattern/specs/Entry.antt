-- Expanding a pattern on lent bytes: what is refused, and what a call leaves (request Fourteen of document 02). Definitions only.
use Rattle.std.specs.Prelude.{ℕ, ◌+◌, ◌*◌, Bool, true, false, not, ◌&&◌, List, [], ◌∷◌, ◌++◌, eqb, ltb, length}
use Rattle.std.proofs.lemmas.List.Edits.{sets}
use Rattle.words.specs.Words.{bytes_of}
use Rattle.image.specs.Layout.{leg_bytes}
use Rattle.image.specs.Parts.{leg_at}
use Rattle.outcome.specs.Outcomes.{Outcome}
use Rattle.outcome.specs.declared.Refusal.TheVariants.{InputLength, BadPattern, LegCount, NoRoom, LegsApart}
use Rattle.outcome.specs.Outcomes.{Table, first_of, differs, Left, left_unless}
use Rattle.route.specs.Form.{route_trailer_bytes, most_legs, legs_meet}
use Rattle.pattern.specs.Tree.{flown_legs}
use Rattle.pattern.specs.Read.{Read, broken, is, read}

-- "repeats may stand inside repeats four deep"
abbrev pub DEEPEST : ℕ
DEEPEST = 4

-- ---- "Expanding writes a route of One's form": legs, then the count and how many bytes back the first leg starts

unfoldable pub joined : List (List ℕ) → List ℕ
joined [] = []
joined (l ∷ ls) = l ++ joined ls

abbrev pub route_length : ℕ → ℕ
route_length n = leg_bytes * n + route_trailer_bytes

unfoldable pub route_of : List (List ℕ) → List ℕ
unfolding joined
route_of ls = joined ls ++ bytes_of (length ls ∷ leg_bytes * length ls ∷ [])

-- "the legs must meet across repeats": each leg and the one that is flown after it
unfoldable pub flown_meet : List (List ℕ) → Bool
flown_meet [] = true
flown_meet (l ∷ []) = true
flown_meet (l ∷ m ∷ ls) = legs_meet (leg_at l 0) (leg_at m 0) && flown_meet (m ∷ ls)

-- ---- "Refusals: 12 a bad tag, count, depth or length, then 5 for no legs or more than 32, 9 if the route doesn't fit its buffer, 7", and before
-- them 2, for a wrong buffer of the answer

abbrev pub is_broken : Read → Bool
is_broken broken = true
is_broken (is p) = false

unfoldable pub legs_read : Read → List (List ℕ)
legs_read broken = []
legs_read (is p) = flown_legs p

-- the legs that a pattern's bytes fly, in order
abbrev pub legs_of : List ℕ → List (List ℕ)
legs_of b = legs_read (read DEEPEST b)

-- of 1 to 32 legs
abbrev pub route_table : List (List ℕ) → ℕ → Table
route_table ls routeLen = (ltb routeLen (route_length (length ls)), NoRoom) ∷ (not (flown_meet ls), LegsApart) ∷ []

abbrev pub expand_table : List ℕ → ℕ → ℕ → Table
expand_table b routeLen writtenLen =
    (differs writtenLen 4, InputLength)
    ∷ (is_broken (read DEEPEST b), BadPattern)
    ∷ (eqb (length (legs_of b)) 0, LegCount)
    ∷ (ltb most_legs (length (legs_of b)), LegCount)
    ∷ route_table (legs_of b) routeLen

unfoldable pub expand_refusal : List ℕ → ℕ → ℕ → Outcome
expand_refusal b routeLen writtenLen = first_of (expand_table b routeLen writtenLen)

-- ---- "The route takes the first bytes of its buffer, its length stands in the answer, and the bytes after it stay. A refused pattern writes nothing."

pub record Buffers : Type 0 where
  pub route : List ℕ
  pub written : List ℕ

abbrev pub buffers : List ℕ → List ℕ → Buffers
buffers route written = record { route = route; written = written }

abbrev pub Expanded : Type 0
Expanded = Left Outcome Buffers

abbrev pub with_route : List (List ℕ) → List ℕ → Buffers
with_route ls route = buffers (sets route 0 (route_of ls)) (bytes_of (route_length (length ls) ∷ []))

unfoldable pub expand_call : List ℕ → List ℕ → List ℕ → Expanded
unfolding route_of expand_refusal
expand_call b route written = left_unless (expand_refusal b (length route) (length written)) (with_route (legs_of b) route) (buffers route written)

-- the same once the legs are known and are 1 to 32
unfoldable pub expanded_call : List (List ℕ) → List ℕ → List ℕ → Expanded
unfolding route_of
expanded_call ls route written = left_unless (first_of (route_table ls (length route))) (with_route ls route) (buffers route written)
