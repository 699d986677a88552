-- `relay_math::is_finite`: the library's definition has the same cases. Assumes nothing.
use Rattle.laws.proofs.Prelude.{◌≡◌, refl, ◌∙◌, Float, nan, inf, fin}
use Rattle.std.specs.Float.{float_is_finite}
use Rattle.relay_math.specs.F32.{is_finite}
use Rattle.relay_math.proofs.is_finite.Goals as goal

same : (x : Float) → float_is_finite x ≡ is_finite x
unfolding float_is_finite is_finite
same nan = refl
same (inf s) = refl
same (fin s m e) = refl

pub returns : goal.returns
returns c = c.is_finite.ensures.value ∙ same c.args.x
