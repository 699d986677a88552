-- `route::entry::route_tick`: by the leg flown, or refused for the route's form. Assumes nothing.
use Rattle.std.proofs.Common.{rules}
use Rattle.laws.proofs.Prelude.{ap, sym, ◌∙◌, length}
use Rattle.outcome.specs.Outcomes.{Outcome}
use Rattle.lent_tick.{specs.Tick.{tick_from}, proofs.TickLeaves.{ticked_by}}
use Rattle.route.specs.{Form.form_refusal, Entry.{on_route, route_call}}
use Rattle.route.proofs.FormRefusals.{in_their_turn}
use Rattle.route.proofs.entry.route_tick.Goals as goal

pub returns : goal.returns
unfolding route_call
returns c =
    let image = c.args.image.now in let input = c.args.input.now in let route = c.args.route.now in let answer = c.args.answer.now in
    ticked_by _ image input answer (on_route route) (form_refusal route) c.tick_toward.ensures (λ w g. search rules)
    ∙ ap (λ (o : Outcome). tick_from (on_route route) o image input answer) (sym (in_their_turn image (length input) (length answer) route))
