-- `lent_tick::tick::tick_toward`: refused as it stands, or flown and written. Assumes nothing.
use Rattle.std.proofs.Common.{rules}
use Rattle.std.specs.Prelude.{Ok, Err}
use Rattle.laws.proofs.Prelude.{◌≡◌, sym, refl, length}
use Rattle.lent_tick.proofs.TickLeaves.{is_unbroken, unbroken_taken, asked_there, wrong_length, lengths, row_four_broken, turned_away, goes, flown, keeps}
use Rattle.lent_tick.proofs.tick.tick_toward.Goals as goal

pub returns-in_err-right_lengths : goal.returns-in_err-right_lengths
returns-in_err-right_lengths g c =
    let handed : c.from_residual.result ≡ Err c.in_err-right_lengths.field-0.0 = search rules in
    rw handed (turned_away _ _ _ _ (wrong_length _ _ _ c.right_lengths.ensures c.in_err-right_lengths.was))

pub returns-then-not-unbroken : goal.returns-then-not-unbroken
returns-then-not-unbroken g c =
    let e = c.scanned-seen.ensures.bytes in
    turned_away _ _ _ _ (row_four_broken _ _ _ c.right_lengths.ensures c.in_ok-right_lengths.was (rw e at c.unbroken.ensures) c.if-not-unbroken.true)

pub put_state_and_answer-requires-clause-fact_2 : goal.put_state_and_answer-requires-clause-fact_2
put_state_and_answer-requires-clause-fact_2 g c = rw c.scanned-seen.ensures.bytes at c.scanned-seen.result.known

pub put_state_and_answer-requires-clause-fact_3 : goal.put_state_and_answer-requires-clause-fact_3
put_state_and_answer-requires-clause-fact_3 g c =
    let l = lengths c.args.image.now (length c.args.input.now) (length c.args.answer.now) c.right_lengths.ensures c.in_ok-right_lengths.was in
    let e = c.scanned-seen.ensures.bytes in
    keeps _ (is_unbroken l.0 (rw e at c.unbroken.ensures) c.if-not-unbroken.false) _ _ (rw e at c.fixed_at-fixed.ensures) (rw e at c.read_and_prepare-prepared.ensures) c.guide_pick_follow-done.ensures

pub returns-then-not-unbroken-2 : goal.returns-then-not-unbroken-2
returns-then-not-unbroken-2 g c =
    let e = c.scanned-seen.ensures.bytes in
    turned_away _ _ _ _ (row_four_broken _ _ _ c.right_lengths.ensures c.in_ok-right_lengths.was (rw e at c.unbroken-in-Err.ensures) c.if-not-unbroken-2.true)

pub returns-else-not-unbroken : goal.returns-else-not-unbroken
returns-else-not-unbroken g c =
    let l = lengths c.args.image.now (length c.args.input.now) (length c.args.answer.now) c.right_lengths.ensures c.in_ok-right_lengths.was in
    let e = c.scanned-seen.ensures.bytes in let fixed = rw e at c.fixed_at-fixed.ensures in let given = rw c.scanned.ensures.bytes at c.input_at-given.ensures in
    let prepared = rw e at c.read_and_prepare-prepared.ensures in
    let u = is_unbroken l.0 (rw e at c.unbroken.ensures) c.if-not-unbroken.false in
    goes _ _ _ _ (sym (unbroken_taken _ _ _ u l.1 l.2)) (Ok c.in-Ok.wanted)
    (asked_there _ _ fixed given prepared (λ s t. g.F.FnOnce.post c.args.source (s, (t, tt)) (Ok c.in-Ok.wanted)) c.in-Ok.ensures)
    (flown (λ time. c.in-Ok.wanted) _ _ _ given fixed prepared refl c.guide_pick_follow-done.ensures c.put_state_and_answer.ensures)

pub returns-else-not-unbroken-2 : goal.returns-else-not-unbroken-2
returns-else-not-unbroken-2 g c =
    let l = lengths c.args.image.now (length c.args.input.now) (length c.args.answer.now) c.right_lengths.ensures c.in_ok-right_lengths.was in
    let e = c.scanned-seen.ensures.bytes in let fixed = rw e at c.fixed_at-fixed.ensures in let given = rw c.scanned.ensures.bytes at c.input_at-given.ensures in
    let prepared = rw e at c.read_and_prepare-prepared.ensures in
    goes _ _ _ _ (sym (unbroken_taken _ _ _ (is_unbroken l.0 (rw e at c.unbroken-in-Err.ensures) c.if-not-unbroken-2.false) l.1 l.2)) (Err c.in-Err.refusal)
    (asked_there _ _ fixed given prepared (λ s t. g.F.FnOnce.post c.args.source (s, (t, tt)) (Err c.in-Err.refusal)) c.in-Err.ensures) refl
