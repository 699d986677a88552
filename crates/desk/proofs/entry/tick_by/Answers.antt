-- `desk::entry::tick_by`: refused as it stands, or the desk stepped, the input changed and the core's tick of it. Assumes nothing.
use Rattle.std.proofs.Common.{rules}
use Rattle.std.specs.Prelude.{Err}
use Rattle.laws.proofs.Prelude.{refl}
use Rattle.words.proofs.Standing.{Bytes}
use Rattle.outcome.specs.Outcomes.{Done, left, lent}
use Rattle.desk.specs.Entry.{flown_input}
use Rattle.desk.proofs.DeskTickLeaves.{restored, lengths_right, goes}
use Rattle.desk.proofs.entry.tick_by.Goals as goal

pub returns-in-Ok : goal.returns-in-Ok
returns-in-Ok g c =
    let desk = c.args.desk.now in let sticks = c.args.sticks.now in let image = c.args.image.now in let input = c.args.input.now in let answer = c.args.answer.now in
    goes desk sticks image input answer _ (lengths_right desk sticks image input answer c.desk_lengths.ensures c.in_ok-desk_lengths.was c.right_lengths.ensures c.in_ok-right_lengths.was)
    (left Done (lent c.core.new.arg2 c.core.new.arg4))
    record { before = _; shows = (refl, c.step_into-moved.ensures.1, refl); after = _; met = c.in-Ok.ensures; leaves = refl }
    (rw (c.put_desk.ensures, c.step_into-moved.ensures.0, c.step_into-moved.ensures.1))

pub returns-in-Err : goal.returns-in-Err
unfolding flown_input
returns-in-Err g c =
    let desk = c.args.desk.now in let sticks = c.args.sticks.now in let image = c.args.image.now in let input = c.args.input.now in let answer = c.args.answer.now in
    let bytes : Bytes input = search rules in
    goes desk sticks image input answer _ (lengths_right desk sticks image input answer c.desk_lengths.ensures c.in_ok-desk_lengths.was c.right_lengths.ensures c.in_ok-right_lengths.was)
    (left (Err c.in-Err.refusal) (lent c.core.new.arg2 c.core.new.arg4))
    record { before = _; shows = (refl, c.step_into-moved.ensures.1, refl); after = _; met = c.in-Err.ensures; leaves = refl }
    (rw (restored input _ _ bytes c.step_into-moved.ensures.1 c.word_at-yaw.ensures c.word_at-yaw_rate.ensures c.put_back.ensures))
