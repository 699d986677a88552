-- `pattern::legs::put_route`: the two tests in their order, then the legs, the trailer and the length. Assumes nothing.
use Rattle.laws.proofs.Prelude.{sym, ◌∙◌}
use Rattle.pattern.proofs.Found.{legs_at, how_many, legs_length_all}
use Rattle.pattern.proofs.ExpandCall.{no_room, apart, all_done}
use Rattle.pattern.proofs.legs.put_route.Goals as goal

pub returns-then-route-length : goal.returns-then-route-length
returns-then-route-length c = let a = c.args in no_room (legs_at a.b.now a.places.now) a.route.now a.written.now (how_many _ _) c.if-route-length.true

pub returns-then-not-all_meet : goal.returns-then-not-all_meet
returns-then-not-all_meet c =
    let a = c.args in
    apart (legs_at a.b.now a.places.now) a.route.now a.written.now (how_many _ _) c.if-route-length.false (sym c.all_meet.ensures ∙ c.if-not-all_meet.true)

pub returns : goal.returns
returns c =
    let a = c.args in
    all_done (legs_at a.b.now a.places.now) a.route.now a.written.now (how_many _ _) c.if-route-length.false (sym c.all_meet.ensures ∙ c.if-not-all_meet.false)
    (legs_length_all _ _ c.requires.places) c.requires.count_bound.1 c.put_legs.ensures c.put_trailer.ensures c.put_word.ensures
