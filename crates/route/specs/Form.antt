-- A route in bytes (request One of document 02): legs of 19 words each, then a trailer of two words, the count and how many bytes back the first leg
-- starts. Definitions only.
use Rattle.std.specs.Prelude.{ℕ, zero, suc, ◌+◌, ◌-◌, ◌*◌, Bool, true, not, ◌&&◌, List, [], ◌∷◌, eqb, ltb, length}
use Rattle.std.specs.Float.Ieee.{eq}
use Rattle.words.specs.Words.{four_bytes}
use Rattle.relay_math.specs.declared.Vec3.{Vec3}
use Rattle.joint_tick.specs.declared.state.Leg.{Leg}
use Rattle.image.specs.Layout.{leg_words, leg_bytes}
use Rattle.image.specs.Parts.{leg_at}
use Rattle.outcome.specs.Outcomes.{Outcome}
use Rattle.outcome.specs.declared.Refusal.TheVariants.{LegCount, RouteLength, LegsApart}
use Rattle.outcome.specs.Outcomes.{Table, first_of, differs}

-- the limit: everything but the check is over any count
abbrev pub most_legs : ℕ
most_legs = 32

abbrev pub route_trailer_bytes : ℕ
route_trailer_bytes = 8

-- ---- the trailer is the last 8 bytes, whatever the length

unfoldable pub leg_count : List ℕ → ℕ
leg_count b = four_bytes b (length b - route_trailer_bytes)

unfoldable pub back_of : List ℕ → ℕ
back_of b = four_bytes b (length b - 4)

-- ---- the legs, from the first byte on

abbrev pub leg_of : List ℕ → ℕ → Leg
leg_of b i = leg_at b (leg_words * i)

-- ---- "each p0, v0, a0 equals the earlier leg's pf, vf, af as numbers": of the words as they stand, before mending

unfoldable pub vecs_meet : Vec3 → Vec3 → Bool
vecs_meet v w = eq v.0 w.0 && eq v.1 w.1 && eq v.2 w.2

unfoldable pub legs_meet : Leg → Leg → Bool
unfolding vecs_meet
legs_meet earlier later = vecs_meet later.p0 earlier.pf && vecs_meet later.v0 earlier.vf && vecs_meet later.a0 earlier.af

-- each of the n legs from leg i on meets the leg before it
unfoldable pub meet_from : List ℕ → ℕ → ℕ → Bool
unfolding legs_meet
meet_from b zero i = true
meet_from b (suc n) i = legs_meet (leg_of b (i - 1)) (leg_of b i) && meet_from b n (suc i)

-- so of all n legs of a route, but the first
unfoldable pub all_meet : List ℕ → ℕ → Bool
unfolding meet_from
all_meet b n = meet_from b (n - 1) 1

-- ---- "6 a route below 8 bytes; 5 count 0 or above 8; 6 distance back not 76 times the count, or length not 8 more; 7 legs don't meet", and request
-- Eight: "5 now means 0 or above 32". Over any limit, so that the earlier release's can be held beside it.

abbrev pub form_table_to : ℕ → List ℕ → Table
form_table_to most b =
    (ltb (length b) route_trailer_bytes, RouteLength)
    ∷ (eqb (leg_count b) 0, LegCount)
    ∷ (ltb most (leg_count b), LegCount)
    ∷ (differs (back_of b) (leg_bytes * leg_count b), RouteLength)
    ∷ (differs (length b) (leg_bytes * leg_count b + route_trailer_bytes), RouteLength)
    ∷ (not (all_meet b (leg_count b)), LegsApart)
    ∷ []

abbrev pub form_table : List ℕ → Table
form_table b = form_table_to most_legs b

unfoldable pub form_refusal : List ℕ → Outcome
unfolding leg_count back_of all_meet
form_refusal b = first_of (form_table b)
