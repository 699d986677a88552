-- Only inner functions promise or ask these, for speed: whoever reads what is claimed need not read them. Definitions only.
use Rattle.std.specs.Prelude.{◌≡◌, true, false, List, ℕ, Float, length, Result, Ok, Err}
use Rattle.relay_traj.specs.declared.segment.Segment3.{Segment3}
use Rattle.relay_traj.specs.declared.governor.RefGovernor.{RefGovernor}
use Rattle.relay_adrc.specs.declared.biquad.GyroLpf.{GyroLpf}
use Rattle.joint_tick.specs.declared.state.Fixed.{Fixed}
use Rattle.joint_tick.specs.declared.state.Moving.{Moving}
use Rattle.joint_tick.specs.declared.stages.Ticked.{Ticked}
use Rattle.image.specs.Image.{image_of}
use Rattle.image.specs.Inputs.{answer_of}
use Rattle.joint_tick.specs.declared.stages.Reference.{Reference}
use Rattle.outcome.specs.declared.Refusal.{Refusal}
use Rattle.outcome.specs.Outcomes.{Outcome, Done, is_done, left, lent, Called}
use Rattle.lent_tick.specs.Tick.{tick_refusal, tick_from}

-- ---- what row 4 judges of what is fixed, as it was read

abbrev pub ReadOf : Segment3 → Float → Float → Fixed → Type 0
ReadOf segment enter exit f = (segment ≡ f.segment) × (enter ≡ f.enter) × (exit ≡ f.exit)

-- ---- what is written of what was prepared and done

abbrev pub left_moving : RefGovernor → GyroLpf → Ticked → Moving
left_moving governor lpf t = record { engaged = t.engaged; governor = governor; rate = t.rate; lpf = lpf }

pub record Leaves (f : Fixed) (governor : RefGovernor) (lpf : GyroLpf) (t : Ticked) (later answered : List ℕ) : Type 0 where
  pub image : later ≡ image_of record { fixed = f; moving = left_moving governor lpf t }
  pub answer : answered ≡ answer_of t.answer

-- ---- what a source gives that may refuse: its refusal, or else the reference

abbrev pub given_unless : Outcome → Reference → Result Reference Refusal
given_unless (Ok u) wanted = Ok wanted
given_unless (Err refusal) wanted = Err refusal

-- ---- what a tick leaves whose reference is this, or which its source refuses

abbrev pub toward : Result Reference Refusal → List ℕ → List ℕ → List ℕ → Called
toward (Ok wanted) image input answer = tick_from (λ time. wanted) Done image input answer
toward (Err refusal) image input answer = left (Err refusal) (lent image answer)

-- what a tick leaves, l, whose source may give these references: refused for the base's own reasons, or else by one of them
pub record Toward (Gives : Result Reference Refusal → Type 0) (image input answer : List ℕ) (l : Called) : Type 0 where
  pub refused : let o = tick_refusal image (length input) (length answer) in is_done o ≡ false → l ≡ left o (lent image answer)
  pub taken : is_done (tick_refusal image (length input) (length answer)) ≡ true → (wanted : Result Reference Refusal) × Gives wanted × (l ≡ toward wanted image input answer)
