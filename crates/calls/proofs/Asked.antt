-- A tick is refused for what `tick_refusal` says, and so by the lengths and the image alone: for callers above the core. Assumes nothing.
use Rattle.laws.proofs.Prelude.{◌≡◌, refl, sym, true, false, List, ℕ, length}
use Rattle.outcome.{specs.Outcomes.{Done, is_done, left, lent, Called}, proofs.Tables.{done_is, refused_keeps, either}}
use Rattle.lent_tick.specs.Tick.{tick_refusal, tick_from}
use Rattle.calls.specs.Entry.{tick_call}

pub refusal_done : (image : List ℕ) (inputLen answerLen : ℕ) → is_done (tick_refusal image inputLen answerLen) ≡ true → tick_refusal image inputLen answerLen ≡ Done
refusal_done image inputLen answerLen e = done_is (tick_refusal image inputLen answerLen) e

pub tick_asked : (image input answer : List ℕ) → (tick_call image input answer).outcome ≡ tick_refusal image (length input) (length answer)
unfolding tick_call tick_from
tick_asked image input answer =
    let o = tick_refusal image (length input) (length answer) in
    either (λ (c : Called). c.outcome ≡ o) o (λ e. sym (refusal_done image (length input) (length answer) e)) (λ e. refl)

pub refused_changes_nothing : (image input answer : List ℕ) → let o = tick_refusal image (length input) (length answer) in
    is_done o ≡ false → tick_call image input answer ≡ left o (lent image answer)
unfolding tick_call tick_from
refused_changes_nothing image input answer e = refused_keeps (tick_refusal image (length input) (length answer)) _ _ e
