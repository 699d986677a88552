-- `route::form::all_meet`: the joins from leg i on decide, as all of them do. Assumes nothing.
use Rattle.laws.proofs.Prelude.{sym, ◌∙◌}
use Rattle.route.specs.Form.{all_meet}
use Rattle.route.proofs.LegWalks.{meet_on, meet_stops, meet_ends}
use Rattle.route.proofs.form.all_meet.Goals as goal

pub returns-then-not-legs_meet : goal.returns-then-not-legs_meet
unfolding all_meet
returns-then-not-legs_meet c =
    sym (meet_stops _ _ _ c.loop-i-test.true (sym c.legs_meet.ensures ∙ c.if-not-legs_meet.true)) ∙ c.loop-i.invariant

pub loop-i-preserved : goal.loop-i-preserved
loop-i-preserved c = meet_on _ _ _ c.loop-i-test.true (sym c.legs_meet.ensures ∙ c.if-not-legs_meet.false) ∙ c.loop-i.invariant

pub returns : goal.returns
unfolding all_meet
returns c = sym (meet_ends _ _ _ c.loop-i-test.false) ∙ c.loop-i.invariant
