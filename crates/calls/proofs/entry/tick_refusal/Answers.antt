-- `calls::entry::tick_refusal`: rows 1 to 3, then row 4. Assumes nothing.
use Rattle.std.proofs.Common.{rules}
use Rattle.std.specs.Prelude.{Err}
use Rattle.laws.proofs.Prelude.{◌≡◌, sym}
use Rattle.lent_tick.proofs.TickLeaves.{is_unbroken, unbroken_taken, wrong_length, lengths, row_four_broken}
use Rattle.calls.proofs.entry.tick_refusal.Goals as goal

pub returns-in_err-right_lengths : goal.returns-in_err-right_lengths
returns-in_err-right_lengths c =
    let handed : c.from_residual.result ≡ Err c.in_err-right_lengths.field-0.0 = search rules in
    rw handed (sym (wrong_length c.args.image.now c.args.input_len c.args.answer_len c.right_lengths.ensures c.in_err-right_lengths.was))

pub returns-then-unread_unbroken : goal.returns-then-unread_unbroken
returns-then-unread_unbroken c =
    let l = lengths c.args.image.now c.args.input_len c.args.answer_len c.right_lengths.ensures c.in_ok-right_lengths.was in
    unbroken_taken _ _ _ (is_unbroken l.0 c.unread_unbroken.ensures c.if-unread_unbroken.true) l.1 l.2

pub returns : goal.returns
returns c = sym (row_four_broken c.args.image.now c.args.input_len c.args.answer_len c.right_lengths.ensures c.in_ok-right_lengths.was c.unread_unbroken.ensures c.if-unread_unbroken.false)
