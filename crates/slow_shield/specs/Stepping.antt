-- The shield that steps, over a list: what the slow one is held to. Definitions only.
use Rattle.std.specs.Prelude.{Bool, List, [], ◌∷◌, map, Float}
use Rattle.relay_math.specs.declared.BodyRate.{BodyRate}
use Rattle.relay_geo.specs.declared.shield.SimplexShield.{SimplexShield}
use Rattle.relay_geo.specs.Shield.{step}

-- what one step is given
pub record StepGiven : Type 0 where
  pub margin : Float
  pub agile : BodyRate
  pub fallback : BodyRate

abbrev pub margins_given : List StepGiven → List Float
margins_given gs = map (λ (g : StepGiven). g.margin) gs

-- the flag of each step of the shield, handed on as the last step left it
unfoldable pub stepped_flags : SimplexShield → List StepGiven → List Bool
unfolding step
stepped_flags s [] = []
stepped_flags s (g ∷ gs) =
    let done = step s g.margin g.agile g.fallback in
    done.fallback ∷ stepped_flags done.shield gs
