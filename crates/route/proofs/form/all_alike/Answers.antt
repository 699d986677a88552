-- `route::form::all_alike`: the joins from leg i on decide, as all of them do. Assumes nothing.
use Rattle.laws.proofs.Prelude.{sym, ◌∙◌}
use Rattle.route.specs.Form.{all_meet}
use Rattle.route.proofs.LegWalks.{meet_on, meet_ends}
use Rattle.route.proofs.form.all_alike.Goals as goal

pub loop-i-preserved : goal.loop-i-preserved
loop-i-preserved c = meet_on _ _ _ c.loop-i-test.true (c.legs_apart.ensures c.if-legs_apart-ne0.false) ∙ c.loop-i.invariant

pub returns : goal.returns
unfolding all_meet
returns c = λ e. sym c.loop-i.invariant ∙ meet_ends _ _ _ c.loop-i-test.false
