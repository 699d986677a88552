-- `route::sample::route_sample`: refused as it stands, or the sample. Assumes nothing.
use Rattle.std.proofs.Common.{rules}
use Rattle.std.specs.Prelude.{Err}
use Rattle.laws.proofs.Prelude.{◌≡◌, ne_eqb, lt_of_lt_of_le}
use Rattle.outcome.proofs.Tables.{accepted, refused}
use Rattle.route.specs.Entry.{sample_refusal, sample_call}
use Rattle.route.proofs.LegFlown.{one_of_them}
use Rattle.route.proofs.FormRefusals.{formed, form_decides_sample}
use Rattle.route.proofs.sample.route_sample.Goals as goal

pub leg_count-requires : goal.leg_count-requires
leg_count-requires c = (formed _ c.form_refusal.ensures c.in_ok-form_refusal.was).trailer

pub sample_on-requires : goal.sample_on-requires
sample_on-requires c = let k = formed _ c.form_refusal.ensures c.in_ok-form_refusal.was in rw c.leg_count.ensures (k.some, k.whole)

pub put_sample-requires : goal.put_sample-requires
put_sample-requires c =
    let k = formed _ c.form_refusal.ensures c.in_ok-form_refusal.was in
    (c.if-sample-ne-SAMPLE_BYTES.false, rw (c.sample_on.ensures, c.leg_count.ensures) (lt_of_lt_of_le (one_of_them _ _ _ k.some) k.few))

pub returns-then-sample-ne-SAMPLE_BYTES : goal.returns-then-sample-ne-SAMPLE_BYTES
unfolding sample_call
returns-then-sample-ne-SAMPLE_BYTES c = unfold sample_refusal in simp (ne_eqb _ _ c.if-sample-ne-SAMPLE_BYTES.true)

pub returns-in_err-form_refusal : goal.returns-in_err-form_refusal
unfolding sample_call
returns-in_err-form_refusal c =
    let handed : c.from_residual.result ≡ Err c.in_err-form_refusal.field-0.0 = search rules in
    rw handed (refused (form_decides_sample _ c.form_refusal.ensures _ c.if-sample-ne-SAMPLE_BYTES.false) c.in_err-form_refusal.was _)

pub returns : goal.returns
unfolding sample_call
returns c =
    let a = accepted (form_decides_sample _ c.form_refusal.ensures _ c.if-sample-ne-SAMPLE_BYTES.false) c.in_ok-form_refusal.was in
    rw (a, c.put_sample.ensures, c.sample_on.ensures, c.leg_count.ensures)
