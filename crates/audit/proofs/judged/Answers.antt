-- `audit::judged`: what is carried along is what looking back says, and the verdict from here on is the verdict. Assumes nothing.
use Rattle.laws.proofs.Prelude.{ℕ, refl, sym, ap, ◌∙◌, sub-zero, arith}
use Rattle.std.proofs.Common.{Some}
use Rattle.slow_shield.specs.Back.{look_back}
use Rattle.flight_log.proofs.LogForm.{is_a_log}
use Rattle.audit.specs.Verdict.{verdict_from}
use Rattle.audit.proofs.OneTurn.{turn, all_turns, carried, goes_on, stops}
use Rattle.audit.proofs.judged.Goals as goal

pub slice_bounds-records-count : goal.slice_bounds-records-count
slice_bounds-records-count c = (is_a_log _ c.requires.0).trailer

pub loop-i-init : goal.loop-i-init
unfolding look_back
loop-i-init c =
    let from = c.into_iter-i-iterator.ensures.into_iter_gives in let e = c.enumerate-i-items.ensures in let chunks = c.chunks_exact.ensures in
    record {
      size = rw (from, e.source) chunks.size;
      rest = rw (from, e.source, e.count) chunks.rest;
      flag = rw (from, e.count) refl;
      verdict = rw (from, e.count, sub-zero) refl;
    }

pub overflow_cast-result : goal.overflow_cast-result
overflow_cast-result c =
    let s = c.in-Some.ensures.steps in let inv = c.loop-i.invariant in
    let t = turn _ _ c.requires.0 (sym inv.rest ∙ s.0.1.0) (s.0.1.1 ∙ inv.size) in
    record { fits = omega (arith, t.few, s.1) }

pub returns-then-not-right : goal.returns-then-not-right
returns-then-not-right c =
    let s = c.in-Some.ensures.steps in let inv = c.loop-i.invariant in
    let t = turn _ _ c.requires.0 (sym inv.rest ∙ s.0.1.0) (s.0.1.1 ∙ inv.size) in
    ap (λ (i : ℕ). Some i) s.1 ∙ sym (stops _ _ _ c.requires.1 _ _ t inv.flag c.float_at.ensures c.latch-engaged.ensures c.right.ensures c.if-not-right.true) ∙ inv.verdict

pub loop-i-preserved : goal.loop-i-preserved
loop-i-preserved c =
    let s = c.in-Some.ensures.steps in let inv = c.loop-i.invariant in
    let t = turn _ _ c.requires.0 (sym inv.rest ∙ s.0.1.0) (s.0.1.1 ∙ inv.size) in
    record {
      size = s.0.0 ∙ inv.size;
      rest = rw s.2 t.left;
      flag = rw s.2 (carried _ _ _ c.requires.1 _ _ t inv.flag c.float_at.ensures c.latch-engaged.ensures c.right.ensures);
      verdict = rw s.2 (sym (goes_on _ _ _ c.requires.1 _ _ t inv.flag c.float_at.ensures c.latch-engaged.ensures c.right.ensures c.if-not-right.false) ∙ inv.verdict);
    }

pub returns : goal.returns
unfolding verdict_from
returns c =
    let inv = c.loop-i.invariant in
    sym (ap (verdict_from _ _ _ _ _) (all_turns _ _ c.requires.0 (rw (← inv.rest, ← inv.size) c.in-None.ensures.steps.0.1.0))) ∙ inv.verdict
