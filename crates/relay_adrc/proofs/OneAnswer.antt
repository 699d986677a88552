-- Of each public function here: no second answer fits its promise. Assumes nothing.
use Rattle.laws.proofs.Prelude.{refl}
use Rattle.laws.proofs.Determined.{OneAnswer, no_second}
use Rattle.relay_adrc.specs.contracts as promised
use Rattle.relay_adrc.proofs.axis
use Rattle.relay_adrc.proofs.biquad
use Rattle.relay_adrc.proofs.filter
use Rattle.relay_adrc.proofs.gains
use Rattle.relay_adrc.proofs.rate

pub sanitise_once : OneAnswer promised.axis.sanitise.ended axis.sanitise.Reads.Post
sanitise_once κs a x y v w p q = (no_second p q, refl)

pub adrc_axis_new_once : OneAnswer promised.axis.AdrcAxis.new.ended axis.AdrcAxis.new.Reads.Post
adrc_axis_new_once κs a x y v w p q = (no_second p q, refl)

pub adrc_axis_disturbance_once : OneAnswer promised.axis.AdrcAxis.disturbance.ended axis.AdrcAxis.disturbance.Reads.Post
adrc_axis_disturbance_once κs a x y v w p q = (no_second p q, refl)

pub adrc_axis_observe_once : OneAnswer promised.axis.AdrcAxis.observe.ended axis.AdrcAxis.observe.Reads.Post
adrc_axis_observe_once κs a x y v w p q = (no_second p q, refl)

pub adrc_axis_act_once : OneAnswer promised.axis.AdrcAxis.act.ended axis.AdrcAxis.act.Reads.Post
adrc_axis_act_once κs a x y v w p q = (no_second p q, refl)

pub adrc_axis_tick_once : OneAnswer promised.axis.AdrcAxis.tick.ended axis.AdrcAxis.tick.Reads.Post
adrc_axis_tick_once κs a x y v w p q = (no_second p q, refl)

pub adrc_axis_reset_once : OneAnswer promised.axis.AdrcAxis.reset.ended axis.AdrcAxis.reset.Reads.Post
adrc_axis_reset_once κs a x y v w p q = (no_second p q, refl)

pub adrc_axis_set_delivered_fraction_once : OneAnswer promised.axis.AdrcAxis.set_delivered_fraction.ended axis.AdrcAxis.set_delivered_fraction.Reads.Post
adrc_axis_set_delivered_fraction_once κs a x y v w p q = (no_second p q, refl)

pub passes_through_once : OneAnswer promised.biquad.passes_through.ended biquad.passes_through.Reads.Post
passes_through_once κs a x y v w p q = (no_second p q, refl)

pub biquad_lowpass_once : OneAnswer promised.biquad.Biquad.lowpass.ended biquad.Biquad.lowpass.Reads.Post
biquad_lowpass_once κs a x y v w p q = (no_second p q, refl)

pub biquad_passthrough_once : OneAnswer promised.biquad.Biquad.passthrough.ended biquad.Biquad.passthrough.Reads.Post
biquad_passthrough_once κs a x y v w p q = (no_second p q, refl)

pub biquad_filter_once : OneAnswer promised.biquad.Biquad.filter.ended biquad.Biquad.filter.Reads.Post
biquad_filter_once κs a x y v w p q = (no_second p q, refl)

pub gyro_lpf_new_once : OneAnswer promised.biquad.GyroLpf.new.ended biquad.GyroLpf.new.Reads.Post
gyro_lpf_new_once κs a x y v w p q = (no_second p q, refl)

pub gyro_lpf_filter_once : OneAnswer promised.biquad.GyroLpf.filter.ended biquad.GyroLpf.filter.Reads.Post
gyro_lpf_filter_once κs a x y v w p q = (no_second p q, refl)

pub clamp_sym_once : OneAnswer promised.filter.clamp_sym.ended filter.clamp_sym.Reads.Post
clamp_sym_once κs a x y v w p q = (no_second p q, refl)

pub command_filter_new_once : OneAnswer promised.filter.CommandFilter.new.ended filter.CommandFilter.new.Reads.Post
command_filter_new_once κs a x y v w p q = (no_second p q, refl)

pub command_filter_step_once : OneAnswer promised.filter.CommandFilter.step.ended filter.CommandFilter.step.Reads.Post
command_filter_step_once κs a x y v w p q = (no_second p q, refl)

pub command_filter_value_once : OneAnswer promised.filter.CommandFilter.value.ended filter.CommandFilter.value.Reads.Post
command_filter_value_once κs a x y v w p q = (no_second p q, refl)

pub command_filter_rate_once : OneAnswer promised.filter.CommandFilter.rate.ended filter.CommandFilter.rate.Reads.Post
command_filter_rate_once κs a x y v w p q = (no_second p q, refl)

pub command_filter_reset_once : OneAnswer promised.filter.CommandFilter.reset.ended filter.CommandFilter.reset.Reads.Post
command_filter_reset_once κs a x y v w p q = (no_second p q, refl)

pub command_filter3_new_once : OneAnswer promised.filter.CommandFilter3.new.ended filter.CommandFilter3.new.Reads.Post
command_filter3_new_once κs a x y v w p q = (no_second p q, refl)

pub command_filter3_step_once : OneAnswer promised.filter.CommandFilter3.step.ended filter.CommandFilter3.step.Reads.Post
command_filter3_step_once κs a x y v w p q = (no_second p q, refl)

pub command_filter3_reset_once : OneAnswer promised.filter.CommandFilter3.reset.ended filter.CommandFilter3.reset.Reads.Post
command_filter3_reset_once κs a x y v w p q = (no_second p q, refl)

pub adrc_gains_new_once : OneAnswer promised.gains.AdrcGains.new.ended gains.AdrcGains.new.Reads.Post
adrc_gains_new_once κs a x y v w p q = (no_second p q, refl)

pub adrc_gains_with_tau_once : OneAnswer promised.gains.AdrcGains.with_tau.ended gains.AdrcGains.with_tau.Reads.Post
adrc_gains_with_tau_once κs a x y v w p q = (no_second p q, refl)

pub adrc_gains_from_bandwidth_once : OneAnswer promised.gains.AdrcGains.from_bandwidth.ended gains.AdrcGains.from_bandwidth.Reads.Post
adrc_gains_from_bandwidth_once κs a x y v w p q = (no_second p q, refl)

pub adrc_gains_well_separated_once : OneAnswer promised.gains.AdrcGains.well_separated.ended gains.AdrcGains.well_separated.Reads.Post
adrc_gains_well_separated_once κs a x y v w p q = (no_second p q, refl)

pub adrc_gains_eso_dt_stable_once : OneAnswer promised.gains.AdrcGains.eso_dt_stable.ended gains.AdrcGains.eso_dt_stable.Reads.Post
adrc_gains_eso_dt_stable_once κs a x y v w p q = (no_second p q, refl)

pub adrc_rate_new_once : OneAnswer promised.rate.AdrcRate.new.ended rate.AdrcRate.new.Reads.Post
adrc_rate_new_once κs a x y v w p q = (no_second p q, refl)

pub adrc_rate_falcon_quad_once : OneAnswer promised.rate.AdrcRate.falcon_quad.ended rate.AdrcRate.falcon_quad.Reads.Post
adrc_rate_falcon_quad_once κs a x y v w p q = (no_second p q, refl)

pub adrc_rate_tick_once : OneAnswer promised.rate.AdrcRate.tick.ended rate.AdrcRate.tick.Reads.Post
adrc_rate_tick_once κs a x y v w p q = (no_second p q, refl)

pub adrc_rate_reset_once : OneAnswer promised.rate.AdrcRate.reset.ended rate.AdrcRate.reset.Reads.Post
adrc_rate_reset_once κs a x y v w p q = (no_second p q, refl)

pub adrc_rate_set_delivered_fraction_once : OneAnswer promised.rate.AdrcRate.set_delivered_fraction.ended rate.AdrcRate.set_delivered_fraction.Reads.Post
adrc_rate_set_delivered_fraction_once κs a x y v w p q = (no_second p q, refl)

pub adrc_rate_disturbance_once : OneAnswer promised.rate.AdrcRate.disturbance.ended rate.AdrcRate.disturbance.Reads.Post
adrc_rate_disturbance_once κs a x y v w p q = (no_second p q, refl)
