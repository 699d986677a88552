-- One step of the shield, in document 01's words. Assumes nothing.
use Rattle.laws.proofs.Prelude.{◌≡◌, refl, sym, ◌∙◌, Bool, true, false, not, and-false, Float, lt, not-false}
use Rattle.relay_math.specs.{F32.is_finite, declared.BodyRate.BodyRate}
use Rattle.relay_geo.specs.{declared.shield.SimplexShield.SimplexShield, Vectors.sanitise3, Shield.step}
use Rattle.latch.{specs.Latch.{releases, engages, latch}, proofs.LatchFlies.released_is_calm}

-- ---- the flag

-- "Engaged: released only by a finite margin strictly above exit."
pub released_only_above_exit : (enter exit m : Float) → latch enter exit true m ≡ false → releases exit m ≡ true
unfolding latch
released_only_above_exit enter exit m e = not-false (releases exit m) e

-- "A margin above exit is answered with the planner's command in that same tick", whoever had control.
pub above_exit_releases : (enter exit : Float) (b : Bool) (m : Float) → lt enter exit ≡ true → releases exit m ≡ true → latch enter exit b m ≡ false
unfolding latch
above_exit_releases enter exit true m o r = rw r
above_exit_releases enter exit false m o r = released_is_calm enter exit o m r

-- "Released: engaged by a margin that is non-finite or below enter." An engaged one stays so at such a margin.
pub engaged_by : (enter exit : Float) (b : Bool) (m : Float) → lt enter exit ≡ true → engages enter m ≡ true → latch enter exit b m ≡ true
unfolding latch
engaged_by enter exit false m o g = g
engaged_by enter exit true m o g = go (releases exit m) refl
  where
    go : (r : Bool) → releases exit m ≡ r → not r ≡ true
    go true e = sym (released_is_calm enter exit o m e) ∙ g
    go false e = refl

-- Between the thresholds, each of them included, it stays as it was.
pub released_stays_in_band : (enter exit m : Float) → is_finite m ≡ true → lt m enter ≡ false → latch enter exit false m ≡ false
unfolding latch
released_stays_in_band enter exit m f l = rw (f, l)

pub engaged_stays_in_band : (enter exit m : Float) → lt exit m ≡ false → latch enter exit true m ≡ true
unfolding latch
engaged_stays_in_band enter exit m l = simp (l, and-false)

-- ---- the step

module _ (s : SimplexShield) (m : Float) (agile fallback : BodyRate) where
  -- the flag is the latch's
  pub step_latches : (step s m agile fallback).fallback ≡ latch s.enter s.exit s.engaged m
  unfolding step
  step_latches = refl

  -- "What is passed on is that command with non-finite numbers made zero, else the fallback treated alike, and the flag names which."
  pub planner_passed_on : (step s m agile fallback).fallback ≡ false → (step s m agile fallback).command ≡ record { 0 = sanitise3 agile.0 }
  unfolding step
  planner_passed_on e = rw e

  pub fallback_passed_on : (step s m agile fallback).fallback ≡ true → (step s m agile fallback).command ≡ record { 0 = sanitise3 fallback.0 }
  unfolding step
  fallback_passed_on e = rw e
