-- `calls::entry::tick`: by the image's own segment, which refuses nothing. Assumes nothing.
use Rattle.std.proofs.Common.{rules}
use Rattle.laws.proofs.Prelude.{ap, ◌∙◌, length}
use Rattle.outcome.{specs.Outcomes.{Outcome, Done}, proofs.Tables.done_or}
use Rattle.lent_tick.{specs.Tick.{tick_refusal, tick_from}, proofs.TickLeaves.{ticked_by}}
use Rattle.calls.specs.Entry.{tick_call, on_segment}
use Rattle.calls.proofs.entry.tick.Goals as goal

pub returns : goal.returns
unfolding tick_call
returns c =
    let image = c.args.image.now in let input = c.args.input.now in let answer = c.args.answer.now in
    ticked_by _ image input answer (on_segment image) Done c.tick_toward.ensures (λ w g. search rules)
    ∙ ap (λ (o : Outcome). tick_from (on_segment image) o image input answer) (done_or (tick_refusal image (length input) (length answer)))
