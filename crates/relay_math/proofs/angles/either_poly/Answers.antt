-- `angles::either_poly`: `poly_of` with the coefficients of one or the other. Assumes nothing.
use Rattle.laws.proofs.Prelude.{◌≡◌, refl, ◌∙◌, Bool, true, false, cond, ℕ}
use Rattle.relay_math.specs.Steps.{poly_of, sin_poly, cos_poly}
use Rattle.relay_math.proofs.angles.either_poly.Goals as goal

one : (s : Bool) (r z : ℕ) → poly_of (cond s r 281474976710656) z (cond s 0x2AAAAAAB 0x80000000) (cond s 0x2222222 0xAAAAAAB) (cond s 0xD00D0 0x5B05B0) (cond s 0x2DFC 0x19D60) ≡ cond s
    (sin_poly r z) (cos_poly z)
unfolding sin_poly cos_poly
one true r z = refl
one false r z = refl

pub returns-clause-is : goal.returns-clause-is
returns-clause-is c =
    let d = c.before in
    let b = d.before.before.before.before in
    let a = b.args in
    c.poly_of.ensures.is ∙ simp (d.pick_of-5.ensures, d.pick_of-4.ensures, d.pick_of-3.ensures) (simp (d.pick_of-2.ensures, b.pick_of.ensures) (one a.sine a.r a.z))
