-- Of each public function here: no second answer fits its promise. Assumes nothing.
use denote.{RattleType.RattleType, Param.Laws.Laws}
use mir.Syntax.{Dict}
use Rattle.laws.proofs.Prelude.{◌≡◌, refl, sym, ◌∙◌, ap, Bool, true, false, List, ℕ, length}
use Rattle.std.specs.Prelude.{Result}
use Rattle.laws.proofs.Determined.{OneAnswer, no_second, both}
use Rattle.joint_tick.specs.declared.stages.Reference.{Reference}
use Rattle.outcome.specs.{declared.Refusal.Refusal, Outcomes.{is_done, Called}}
use Rattle.lent_tick.specs.{Tick.tick_refusal, Inner.{Toward}}
use Rattle.lent_tick.specs.contracts as promised
use Rattle.lent_tick.proofs.ends
use Rattle.lent_tick.proofs.row_four
use Rattle.lent_tick.proofs.tick

pub unbroken_once : OneAnswer promised.row_four.unbroken.ended row_four.unbroken.Reads.Post
unbroken_once κs a x y v w p q = (no_second p q, refl)

pub read_and_prepare_once : OneAnswer promised.ends.read_and_prepare.ended ends.read_and_prepare.Reads.Post
read_and_prepare_once κs a x y v w p q = (no_second p q, refl)

pub put_state_and_answer_once : OneAnswer promised.ends.put_state_and_answer.ended ends.put_state_and_answer.Reads.Post
put_state_and_answer_once κs a x y v w p q = (refl, both (no_second p.image q.image) (both (no_second p.answer q.answer) refl))

pub right_lengths_once : OneAnswer promised.tick.right_lengths.ended tick.right_lengths.Reads.Post
right_lengths_once κs a x y v w p q = (no_second p q, refl)

-- What `tick_toward` leaves is fixed where its source gives one reference, or one refusal.
pub toward_once : (Gives : Result Reference Refusal → Type 0) (image input answer : List ℕ) {l m : Called} → ((v w : Result Reference Refusal) → Gives v → Gives w → v ≡ w)
    → Toward Gives image input answer l → Toward Gives image input answer m → l ≡ m
toward_once Gives image input answer {l} {m} one p q = go (is_done (tick_refusal image (length input) (length answer))) refl
  where
    go : (b : Bool) → is_done (tick_refusal image (length input) (length answer)) ≡ b → l ≡ m
    go false d = p.refused d ∙ sym (q.refused d)
    go true d = let (v, g, e) = p.taken d in let (w, h, f) = q.taken d in e ∙ rw (one v w g h) (sym f)

-- So no second answer fits its promise, whatever the source is, if none fits the source's own.
module _ (F : RattleType) (laws : Laws F) (source : promised.tick.tick_toward.F-FnOnce.Ghosts F) (d e : Dict) where
  pub tick_toward_once : ((f : _) (given : _) (v w : Result Reference Refusal) → source.post f given v → source.post f given w → v ≡ w)
      → OneAnswer (promised.tick.tick_toward.ended F source d e) (tick.tick_toward.Reads.Post F laws source d e)
  tick_toward_once one κs a x y v w p q =
      let same = toward_once _ _ _ _ (one _ _) p q in
      (ap (λ (l : Called). l.outcome) same, both (ap (λ (l : Called). l.later.image) same) (both refl (both (ap (λ (l : Called). l.later.answer) same) refl)))
