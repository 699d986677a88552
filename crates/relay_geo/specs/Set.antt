-- The recoverable set and its margin (000). Definitions only.
use Rattle.std.specs.Prelude.{Bool, true, not, ◌||◌, cond, Float}
use Rattle.std.specs.Float.{inf}
use Rattle.std.specs.Float.Ieee.{lt, le}
use Rattle.relay_math.specs.F32.{◌⊖◌, ◌⊗◌, ◌⊘◌, 0·0, 2·0, is_finite, finite_or}
use Rattle.relay_geo.specs.declared.set.RecoverableSet.{RecoverableSet}

abbrev pub new_set : Float → Float → Float → RecoverableSet
new_set kR lambdaJ psiMax = record { k_r = kR; lambda_j = lambdaJ; psi_max = psiMax }

abbrev pub minus_infinity : Float
minus_infinity = inf true

-- the margin cannot be told
abbrev pub unknown : Float → Float → Float → Bool
unknown psi eOmegaSq lambdaJ = not (is_finite psi) || not (is_finite eOmegaSq) || not (is_finite lambdaJ) || le lambdaJ 0·0

-- the two parts, and the smaller of them by one strict comparison
abbrev pub psi_margin : RecoverableSet → Float → Float
psi_margin set psi = set.psi_max ⊖ psi

abbrev pub rate_margin : RecoverableSet → Float → Float → Float
rate_margin set psi eOmegaSq =
    let rateCap = 2·0 ⊗ set.k_r ⊗ (2·0 ⊖ psi) ⊘ set.lambda_j in
    rateCap ⊖ eOmegaSq

abbrev pub smaller : Float → Float → Float
smaller psi_margin rate_margin = cond (lt psi_margin rate_margin) psi_margin rate_margin

unfoldable pub margin : RecoverableSet → Float → Float → Float
margin set psi eOmegaSq =
    let m = smaller (psi_margin set psi) (rate_margin set psi eOmegaSq) in
    cond (unknown psi eOmegaSq set.lambda_j) minus_infinity (finite_or m minus_infinity)

unfoldable pub recoverable : RecoverableSet → Float → Float → Bool
unfolding margin
recoverable set psi eOmegaSq = le 0·0 (margin set psi eOmegaSq)
