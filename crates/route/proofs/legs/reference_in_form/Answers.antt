-- `route::legs::reference_in_form`: refused as the form is, or the leg flown. Assumes nothing.
use Rattle.std.proofs.Common.{rules}
use Rattle.std.specs.Prelude.{Err}
use Rattle.laws.proofs.Prelude.{◌≡◌}
use Rattle.route.specs.Entry.{on_route}
use Rattle.route.proofs.FormRefusals.{formed}
use Rattle.route.proofs.legs.reference_in_form.Goals as goal

pub returns-in_err-form_refusal : goal.returns-in_err-form_refusal
returns-in_err-form_refusal c =
    let handed : c.from_residual.result ≡ Err c.in_err-form_refusal.field-0.0 = search rules in
    rw (handed, ← c.form_refusal.ensures, c.in_err-form_refusal.was)

pub leg_count-requires : goal.leg_count-requires
leg_count-requires c = (formed _ c.form_refusal.ensures c.in_ok-form_refusal.was).trailer

pub reference_on-requires : goal.reference_on-requires
reference_on-requires c = let k = formed _ c.form_refusal.ensures c.in_ok-form_refusal.was in rw c.leg_count.ensures (k.some, k.whole)

pub returns : goal.returns
unfolding on_route
returns c = rw (← c.form_refusal.ensures, c.in_ok-form_refusal.was, c.reference_on.ensures, c.leg_count.ensures)
