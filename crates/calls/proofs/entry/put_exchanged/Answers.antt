-- `calls::entry::put_exchanged`: by what it calls. Assumes nothing.
use Rattle.laws.proofs.Prelude.{◌∙◌, ap}
use Rattle.joint_tick.specs.declared.state.State.{State}
use Rattle.image.specs.Image.{image_of}
use Rattle.calls.proofs.entry.put_exchanged.Goals as goal

pub returns : goal.returns
returns c = c.put_state.ensures ∙ ap (λ (s : State). image_of s) (c.exchange-state.ensures ∙ rw (c.state_at.ensures, c.leg_at.ensures))
