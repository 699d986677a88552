-- Of each public function here: no second answer fits its promise. Assumes nothing.
use Rattle.laws.proofs.Prelude.{◌≡◌, refl}
use Rattle.laws.proofs.Determined.{Promise, OneAnswer, Says, no_second, both}
use Rattle.relay_traj.specs.Governor.{advance}
use Rattle.relay_traj.specs.contracts as promised
use Rattle.relay_traj.proofs.governor
use Rattle.relay_traj.specs.contracts.governor.RefGovernor.advance_lent as lent
use Rattle.relay_traj.proofs.quintic
use Rattle.relay_traj.proofs.segment

pub clamp_to_once : OneAnswer promised.governor.clamp_to.ended governor.clamp_to.Reads.Post
clamp_to_once κs a x y v w p q = (no_second p q, refl)

pub gate_factor_once : OneAnswer promised.governor.gate_factor.ended governor.gate_factor.Reads.Post
gate_factor_once κs a x y v w p q = (no_second p q, refl)

pub ref_governor_new_once : OneAnswer promised.governor.RefGovernor.new.ended governor.RefGovernor.new.Reads.Post
ref_governor_new_once κs a x y v w p q = (no_second p q, refl)

pub ref_governor_gate_once : OneAnswer promised.governor.RefGovernor.gate.ended governor.RefGovernor.gate.Reads.Post
ref_governor_gate_once κs a x y v w p q = (no_second p q, refl)

pub ref_governor_advance_once : OneAnswer promised.governor.RefGovernor.advance.ended governor.RefGovernor.advance.Reads.Post
ref_governor_advance_once κs a x y v w p q = (no_second p q, refl)

pub ref_governor_time_once : OneAnswer promised.governor.RefGovernor.time.ended governor.RefGovernor.time.Reads.Post
ref_governor_time_once κs a x y v w p q = (no_second p q, refl)

pub ref_governor_reset_once : OneAnswer promised.governor.RefGovernor.reset.ended governor.RefGovernor.reset.Reads.Post
ref_governor_reset_once κs a x y v w p q = (no_second p q, refl)

pub fin_once : OneAnswer promised.quintic.fin.ended quintic.fin.Reads.Post
fin_once κs a x y v w p q = (no_second p q, refl)

pub mended_duration_once : OneAnswer promised.quintic.mended_duration.ended quintic.mended_duration.Reads.Post
mended_duration_once κs a x y v w p q = (no_second p q, refl)

pub quintic_new_once : OneAnswer promised.quintic.Quintic.new.ended quintic.Quintic.new.Reads.Post
quintic_new_once κs a x y v w p q = (no_second p q, refl)

pub quintic_of_mended_once : OneAnswer promised.quintic.Quintic.of_mended.ended quintic.Quintic.of_mended.Reads.Post
quintic_of_mended_once κs a x y v w p q = (no_second p q, refl)

pub quintic_duration_once : OneAnswer promised.quintic.Quintic.duration.ended quintic.Quintic.duration.Reads.Post
quintic_duration_once κs a x y v w p q = (no_second p q, refl)

pub quintic_eval_once : OneAnswer promised.quintic.Quintic.eval.ended quintic.Quintic.eval.Reads.Post
quintic_eval_once κs a x y v w p q = (no_second p q, refl)

pub quintic_jerk_coeffs_once : OneAnswer promised.quintic.Quintic.jerk_coeffs.ended quintic.Quintic.jerk_coeffs.Reads.Post
quintic_jerk_coeffs_once κs a x y v w p q = (no_second p q, refl)

pub quintic_peak_abs_jerk_once : OneAnswer promised.quintic.Quintic.peak_abs_jerk.ended quintic.Quintic.peak_abs_jerk.Reads.Post
quintic_peak_abs_jerk_once κs a x y v w p q = (no_second p q, refl)

pub segment3_new_once : OneAnswer promised.segment.Segment3.new.ended segment.Segment3.new.Reads.Post
segment3_new_once κs a x y v w p q = (no_second p q, refl)

pub segment3_rest_to_rest_once : OneAnswer promised.segment.Segment3.rest_to_rest.ended segment.Segment3.rest_to_rest.Reads.Post
segment3_rest_to_rest_once κs a x y v w p q = (no_second p q, refl)

pub segment3_duration_once : OneAnswer promised.segment.Segment3.duration.ended segment.Segment3.duration.Reads.Post
segment3_duration_once κs a x y v w p q = (no_second p q, refl)

pub segment3_eval_once : OneAnswer promised.segment.Segment3.eval.ended segment.Segment3.eval.Reads.Post
segment3_eval_once κs a x y v w p q = (no_second p q, refl)

pub segment3_peak_abs_jerk_once : OneAnswer promised.segment.Segment3.peak_abs_jerk.ended segment.Segment3.peak_abs_jerk.Reads.Post
segment3_peak_abs_jerk_once κs a x y v w p q = (no_second p q, refl)

-- Of `advance_lent`: what it promises, and that its own clause is that.
abbrev Moved : Promise lent.ended
Moved κs a r e =
    let next = advance a.0.now a.1.0 a.1.1.0 in
    (r ≡ next.time) × (e.0.now ≡ next.governor)

pub advance_lent_says : Says lent.ended (λ M 𝓤. lent.clauses) Moved
advance_lent_says M 𝓤 𝓛 mem run κs a g r e = refl

pub advance_lent_once : OneAnswer lent.ended Moved
advance_lent_once κs a x y v w p q = (no_second p.0 q.0, both (no_second p.1 q.1) refl)
