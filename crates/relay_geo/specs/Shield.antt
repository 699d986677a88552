-- The simplex shield (000). Definitions only.
use Rattle.std.specs.Prelude.{Bool, true, cond, Float}
use Rattle.relay_math.specs.F32.{◌⊗◌, 0·0, 0·1, 2·0, above_or}
use Rattle.relay_math.specs.declared.BodyRate.{BodyRate}
use Rattle.relay_geo.specs.declared.set.RecoverableSet.{RecoverableSet}
use Rattle.relay_geo.specs.declared.shield.Thresholds.{Thresholds}
use Rattle.relay_geo.specs.declared.shield.SimplexShield.{SimplexShield}
use Rattle.relay_geo.specs.declared.shield.Shielded.{Shielded}
use Rattle.relay_geo.specs.Vectors.{sanitise3}
use Rattle.relay_geo.specs.Set.{margin}
use Rattle.latch.specs.Latch.{latch}

abbrev pub mend_enter : Float → Float
mend_enter enter = above_or 0·0 enter 0·1

abbrev pub mend_exit : Float → Float → Float
mend_exit enter exit = above_or enter exit (enter ⊗ 2·0)

unfoldable pub mend_thresholds : Float → Float → Thresholds
mend_thresholds enter exit =
    let enter = mend_enter enter in
    record { enter = enter; exit = mend_exit enter exit }

unfoldable pub new_shield : RecoverableSet → Float → Float → SimplexShield
unfolding mend_thresholds
new_shield set enter exit =
    let t = mend_thresholds enter exit in
    record { set = set; engaged = true; enter = t.enter; exit = t.exit }

-- the chosen command, its non-finite numbers made +0
abbrev pub picked : Bool → BodyRate → BodyRate → BodyRate
picked engaged agile fallback = cond engaged record { 0 = sanitise3 fallback.0 } record { 0 = sanitise3 agile.0 }

unfoldable pub step : SimplexShield → Float → BodyRate → BodyRate → Shielded
unfolding latch
step shield margin agile fallback =
    let engaged = latch shield.enter shield.exit shield.engaged margin in
    record {
      shield = record { set = shield.set; engaged = engaged; enter = shield.enter; exit = shield.exit };
      command = picked engaged agile fallback;
      fallback = engaged;
    }

unfoldable pub filter : SimplexShield → Float → Float → BodyRate → BodyRate → Shielded
unfolding step margin
filter shield psi eOmegaSq agile fallback = step shield (margin shield.set psi eOmegaSq) agile fallback
