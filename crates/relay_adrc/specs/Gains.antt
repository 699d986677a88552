-- `AdrcGains` of document 002. Definitions only.
use Rattle.std.specs.Prelude.{Bool, ◌&&◌, Float}
use Rattle.std.specs.Float.Ieee.{lt, le}
use Rattle.relay_math.specs.F32.{◌⊗◌, 0·0, 2·0, is_finite}
use Rattle.relay_adrc.specs.declared.gains.AdrcGains.{AdrcGains}

abbrev pub gains_new : Float → Float → Float → AdrcGains
gains_new ωo ωc b0 = record { omega_o = ωo; omega_c = ωc; b0 = b0; tau = 0·0 }

abbrev pub with_tau : Float → Float → Float → Float → AdrcGains
with_tau ωo ωc b0 tau = record { omega_o = ωo; omega_c = ωc; b0 = b0; tau = tau }

abbrev pub from_bandwidth : Float → Float → Float → Float → AdrcGains
from_bandwidth ωc separation b0 tau = record { omega_o = separation ⊗ ωc; omega_c = ωc; b0 = b0; tau = tau }

abbrev pub well_separated : AdrcGains → Float → Bool
well_separated g minRatio =
    is_finite g.omega_o && is_finite g.omega_c && lt 0·0 g.omega_c && le (minRatio ⊗ g.omega_c) g.omega_o

abbrev pub eso_dt_stable : AdrcGains → Float → Float → Bool
eso_dt_stable g dt margin = is_finite g.omega_o && is_finite dt && lt 0·0 dt && lt (g.omega_o ⊗ dt) (2·0 ⊗ margin)
