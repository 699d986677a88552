-- `pattern::entry::expand_into`: refused as it stands, or the route of the legs that the walk found. Assumes nothing.
use Rattle.laws.proofs.Prelude.{ne_eqb, refl}
use Rattle.pattern.specs.Entry.{expand_call, expand_refusal}
use Rattle.pattern.proofs.ExpandCall.{tree, tree_is, none_found, many_found, places_found, routed, walk_says_broken, bad_pattern, no_legs, many_legs}
use Rattle.pattern.proofs.entry.expand_into.Goals as goal
use Rattle.pattern.proofs.entry.expand_into.Goals.{then-count-eq0-via-then-count-eq0, then-count-eq0-via-else-count-eq0+then-count-gt-MOST_LEGS}

pub returns-then-written-ne4 : goal.returns-then-written-ne4
unfolding expand_call expand_refusal
returns-then-written-ne4 c = simp (ne_eqb _ _ c.if-written-ne4.true)

pub returns-in_default : goal.returns-in_default
returns-in_default c =
    let a = c.args in
    bad_pattern a.pattern.now a.route.now a.written.now c.if-written-ne4.false (walk_says_broken _ c.in_default.ensures.counted)

pub returns-then-count-eq0 : goal.returns-then-count-eq0
returns-then-count-eq0 c =
    let a = c.args in let w = c.in-Some.ensures in
    elim c.then-count-eq0.branch [
      | then-count-eq0-via-then-count-eq0 v ↦
          no_legs a.pattern.now a.route.now a.written.now c.if-written-ne4.false (tree _ _ _ refl w) (tree_is _ _ _ refl w) (none_found _ _ _ refl w v.if-count-eq0.true)
      | then-count-eq0-via-else-count-eq0+then-count-gt-MOST_LEGS v ↦
          many_legs a.pattern.now a.route.now a.written.now c.if-written-ne4.false (tree _ _ _ refl w) (tree_is _ _ _ refl w) (many_found _ _ _ refl w v.if-count-gt-MOST_LEGS.true)
    ]

pub put_route-requires-clause-places : goal.put_route-requires-clause-places
put_route-requires-clause-places c = places_found _ _ _ refl c.in-Some.ensures c.if-count-gt-MOST_LEGS.false

pub returns : goal.returns
returns c =
    let a = c.args in
    routed a.pattern.now _ _ refl c.in-Some.ensures c.if-count-gt-MOST_LEGS.false a.route.now a.written.now c.if-written-ne4.false
    c.if-count-eq0.false c.put_route.ensures
